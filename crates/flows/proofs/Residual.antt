-- The steps out of each place, by number.
use Rattle.std.proofs.Common.{◌≡◌, ℕ, zero, suc, ◌+◌, ◌*◌, ◌/◌, ◌%◌, ◌<◌, Bool, true, false, cond, ◌&&◌, ◌||◌, eqb, ltb, ◌⊎◌, List, [], ◌∷◌, map, length, get_or, sym, refl, ap, ◌∙◌, subst, subst₂, inl, inr, ⊎_elim, arith}
use Rattle.std.proofs.lemmas.Bool.{cases_eq, eqb-true, eq-eqb, ne_eqb, lt-ltb, ltb-true, or_cases, or_left, or_right, and_parts, and_from}
use Rattle.routes.specs.Routes.{Passes, Ordered}
use Rattle.routes.specs.Plans.{ones}
use Rattle.routes.specs.Residuals.{Place, entry, exit, Step, pass_one, unpass_one, send_on, take_back}
use Rattle.routes.proofs.Wires.{passes_in, lower}
use Rattle.rows.specs.Rows.{cell, Only}
use Rattle.rows.specs.Held.{circuit_of, bars_of}
use Rattle.flows.specs.Kept.{flow_in}
use Rattle.flows.specs.Stacks.{place, numbered}
use Rattle.flows.specs.Residual.{In, passing_kind, back_to, entry_steps, exit_steps, residual, Feeds, ResidualLength, ResidualInside, ResidualSteps}
use Rattle.flows.proofs.Kept.{wires_at_most}
use Rattle.flows.proofs.Writes.{along_passes, unit_from, first_units, second_units}
use Rattle.flows.proofs.Steps.{place_even, place_odd, number_place}

-- membership
in_here : (q x : ℕ) (xs : List ℕ) → x ≡ q → In q (x ∷ xs)
in_here q x xs e = (0, omega arith, e)

in_later : (q x : ℕ) (xs : List ℕ) → In q xs → In q (x ∷ xs)
in_later q x xs t = (suc t.0, omega (arith, t.1), t.2)

in_cases : (q x : ℕ) (xs : List ℕ) → In q (x ∷ xs) → (x ≡ q) ⊎ In q xs
in_cases q x xs t = go t.0 t.1 t.2
  where
    go : (i : ℕ) → i < length (x ∷ xs) → get_or (x ∷ xs) i 0 ≡ q → (x ≡ q) ⊎ In q xs
    go zero l e = inl e
    go (suc i) l e = inr (i, omega arith, e)

in_none : {A : Type 0} (q : ℕ) → In q [] → A
in_none q t = absurd (omega (arith, t.1))

in_three : (q x y z : ℕ) → In q (x ∷ y ∷ z ∷ []) → (x ≡ q) ⊎ ((y ≡ q) ⊎ (z ≡ q))
in_three q x y z t =
    ⊎_elim inl (λ u. inr (⊎_elim inl (λ r. inr (⊎_elim (λ e. e) (λ n. in_none q n) (in_cases q z [] r))) (in_cases q y (z ∷ []) u))) (in_cases q x (y ∷ z ∷ []) t)

in_map : (f : ℕ → ℕ) (q : ℕ) (xs : List ℕ) → In q (map f xs) → (w : ℕ) × In w xs × (f w ≡ q)
in_map f q [] t = in_none q t
in_map f q (x ∷ xs) t =
    ⊎_elim (λ e. (x, in_here x x xs refl, e))
    (λ u. let k : (w : ℕ) × In w xs × (f w ≡ q) = in_map f q xs u in (k.0, in_later k.0 x xs k.1, k.2))
    (in_cases q (f x) (map f xs) t)

map_in : (f : ℕ → ℕ) (w : ℕ) (xs : List ℕ) → In w xs → In (f w) (map f xs)
map_in f w [] t = in_none w t
map_in f w (x ∷ xs) t =
    ⊎_elim (λ e. in_here (f w) (f x) (map f xs) (ap f e)) (λ u. in_later (f w) (f x) (map f xs) (map_in f w xs u)) (in_cases w x xs t)

-- a step or none
pick : {A : Type 0} (t : Bool) (k p q : ℕ) → cond t k p ≡ q → (t ≡ true → k ≡ q → A) → (q ≡ p) ⊎ A
pick true k p q e f = inr (f refl e)
pick false k p q e f = inl (sym e)

-- a step back, of a wire
pick_back : {A : Type 0} (n p q : ℕ) (can : Bool) (v : ℕ) → back_to n p can v ≡ q → (can ≡ true → v < n → 2 * v + 1 ≡ q → A) → (q ≡ p) ⊎ A
pick_back n p q can v e f =
    pick (can && ltb v n) (2 * v + 1) p q e (λ h k. f (and_parts can (ltb v n) h).0 (ltb-true v n (and_parts can (ltb v n) h).1) k)

taken : (t : Bool) (k p q : ℕ) → t ≡ true → k ≡ q → cond t k p ≡ q
taken t k p q h e = ap (λ b. cond b k p) h ∙ e

taken_back : (n p q : ℕ) (can : Bool) (v : ℕ) → can ≡ true → v < n → 2 * v + 1 ≡ q → back_to n p can v ≡ q
taken_back n p q can v h l e = taken (can && ltb v n) (2 * v + 1) p q (and_from can (ltb v n) h (lt-ltb v n l)) e

-- places by number
pub even_half : (w : ℕ) → (2 * w) / 2 ≡ w
even_half w = omega arith

pub even_rest : (w : ℕ) → (2 * w) % 2 ≡ 0
even_rest w = omega arith

pub odd_half : (w : ℕ) → (2 * w + 1) / 2 ≡ w
odd_half w = omega arith

pub odd_rest : (w : ℕ) → (2 * w + 1) % 2 ≡ 0 → ⊥
odd_rest w e = omega arith

place_2 : (w q : ℕ) → 2 * w ≡ q → entry w ≡ place q
place_2 w q e = sym (ap place (sym e) ∙ place_even (2 * w) (even_rest w) ∙ ap entry (even_half w))

place_21 : (w q : ℕ) → 2 * w + 1 ≡ q → exit w ≡ place q
place_21 w q e = sym (ap place (sym e) ∙ place_odd (2 * w + 1) (odd_rest w) ∙ ap exit (odd_half w))

module _ (m : List ℕ) (n : ℕ) (feeds : ℕ → List ℕ) where
  at_entry : (p : ℕ) → p % 2 ≡ 0 → residual m n feeds p ≡ entry_steps m n p (p / 2)
  unfolding residual
  at_entry p e = ap (λ t. cond t (entry_steps m n p (p / 2)) (exit_steps m n feeds p (p / 2))) (eq-eqb (p % 2) 0 e)

  at_exit : (p : ℕ) → (p % 2 ≡ 0 → ⊥) → residual m n feeds p ≡ exit_steps m n feeds p (p / 2)
  unfolding residual
  at_exit p e = ap (λ t. cond t (entry_steps m n p (p / 2)) (exit_steps m n feeds p (p / 2))) (ne_eqb (p % 2) 0 e)

  -- the steps that can be made from an entry, and from an exit
  abbrev Back : Bool → ℕ → ℕ → Type 0
  Back can v q = (can ≡ true) × (v < n) × (2 * v + 1 ≡ q)

  from_entry : (p q : ℕ) → In q (entry_steps m n p (p / 2))
      → (q ≡ p) ⊎ ((((bars_of m n (p / 2) || ltb (cell m n 12 (p / 2)) 1) ≡ true) × (2 * (p / 2) + 1 ≡ q))
      ⊎ (Back (passing_kind (cell m n 0 (p / 2)) && ltb 0 (cell m n 9 (p / 2))) (cell m n 1 (p / 2)) q
      ⊎ Back (eqb (cell m n 0 (p / 2)) 3 && ltb 0 (cell m n 10 (p / 2))) (cell m n 2 (p / 2)) q))
  from_entry p q t =
      let w : ℕ = p / 2 in
      let one : Bool = passing_kind (cell m n 0 w) && ltb 0 (cell m n 9 w) in
      let two : Bool = eqb (cell m n 0 w) 3 && ltb 0 (cell m n 10 w) in
      ⊎_elim
      (λ z. pick (bars_of m n w || ltb (cell m n 12 w) 1) (2 * w + 1) p q z (λ h k. inl (h, k)))
      (λ u. ⊎_elim
      (λ z. pick_back n p q one (cell m n 1 w) z (λ h l k. inr (inl (h, l, k))))
      (λ z. pick_back n p q two (cell m n 2 w) z (λ h l k. inr (inr (h, l, k)))) u)
      (in_three q (cond (bars_of m n w || ltb (cell m n 12 w) 1) (2 * w + 1) p) (back_to n p one (cell m n 1 w)) (back_to n p two (cell m n 2 w)) t)

  from_exit : (p q : ℕ) → In q (exit_steps m n feeds p (p / 2))
      → (q ≡ p) ⊎ (((0 < cell m n 12 (p / 2)) × (2 * (p / 2) ≡ q)) ⊎ ((w : ℕ) × In w (feeds (p / 2)) × (w < n) × (2 * w ≡ q)))
  from_exit p q t =
      let v : ℕ = p / 2 in
      ⊎_elim
      (λ z. pick (ltb 0 (cell m n 12 v)) (2 * v) p q z (λ h k. inl (ltb-true 0 (cell m n 12 v) h, k)))
      (λ u. let k : (w : ℕ) × In w (feeds v) × (cond (ltb w n) (2 * w) p ≡ q) = in_map (λ w. cond (ltb w n) (2 * w) p) q (feeds v) u in
      pick (ltb k.0 n) (2 * k.0) p q k.2 (λ h e. inr (k.0, k.1, ltb-true k.0 n h, e)))
      (in_cases q (cond (ltb 0 (cell m n 12 v)) (2 * v) p) (map (λ w. cond (ltb w n) (2 * w) p) (feeds v)) t)

  inside : (p q : ℕ) → p < 2 * n → In q (residual m n feeds p) → q < 2 * n
  inside p q l t =
      ⊎_elim
      (λ e. ⊎_elim (λ (s : q ≡ p). omega arith)
      (⊎_elim (λ s. omega (arith, s.1)) (⊎_elim (λ s. omega (arith, s.1, s.2)) (λ s. omega (arith, s.1, s.2))))
      (from_entry p q (subst (In q) (at_entry p e) t)))
      (λ e. ⊎_elim (λ (s : q ≡ p). omega arith)
      (⊎_elim (λ s. omega (arith, s.1)) (λ s. omega (arith, s.2, s.3)))
      (from_exit p q (subst (In q) (at_exit p e) t)))
      (cases_eq (p % 2) 0)

  module _ (ordered : Ordered (circuit_of m n)) (f : Feeds m n feeds) where
    abbrev Go : ℕ → ℕ → Type 0
    Go p q = Step (circuit_of m n) (bars_of m n) ones (flow_in m n) (place p) (place q)

    go_from : {a b : Place} (p q : ℕ) → Step (circuit_of m n) (bars_of m n) ones (flow_in m n) a b → a ≡ place p → b ≡ place q → Go p q
    go_from p q s ea eb = subst₂ (λ a b. Step (circuit_of m n) (bars_of m n) ones (flow_in m n) a b) ea eb s

    entry_goes : (p q : ℕ) → p % 2 ≡ 0 → In q (entry_steps m n p (p / 2)) → (q ≡ p) ⊎ Go p q
    unfolding flow_in
    entry_goes p q e t =
        let w : ℕ = p / 2 in
        ⊎_elim inl
        (⊎_elim
        (λ s. inr (go_from p q
        (pass_one {w = w} (⊎_elim inl (λ l. inr (ltb-true (cell m n 12 w) 1 l)) (or_cases (bars_of m n w) (ltb (cell m n 12 w) 1) s.0)))
        (sym (place_even p e)) (place_21 w q s.1)))
        (⊎_elim
        (λ s. let k : (passing_kind (cell m n 0 (p / 2)) ≡ true) × (ltb 0 (cell m n 9 (p / 2)) ≡ true) = and_parts (passing_kind (cell m n 0 w)) (ltb 0 (cell m n 9 w)) s.0 in
        let r : (ltb 0 (cell m n 0 (p / 2)) ≡ true) × (ltb (cell m n 0 (p / 2)) 4 ≡ true) = and_parts (ltb 0 (cell m n 0 w)) (ltb (cell m n 0 w) 4) k.0 in
        inr (go_from p q
        (take_back {v = cell m n 1 w} {w = w}
        (first_units m n w (ltb-true 0 (cell m n 0 w) r.0) (ltb-true (cell m n 0 w) 4 r.1) (ltb-true 0 (cell m n 9 w) k.1)))
        (sym (place_even p e)) (place_21 (cell m n 1 w) q s.2)))
        (λ s. let k : (eqb (cell m n 0 (p / 2)) 3 ≡ true) × (ltb 0 (cell m n 10 (p / 2)) ≡ true) = and_parts (eqb (cell m n 0 w) 3) (ltb 0 (cell m n 10 w)) s.0 in
        inr (go_from p q
        (take_back {v = cell m n 2 w} {w = w} (second_units m n w (eqb-true (cell m n 0 w) 3 k.0) (ltb-true 0 (cell m n 10 w) k.1)))
        (sym (place_even p e)) (place_21 (cell m n 2 w) q s.2)))))
        (from_entry p q t)

    exit_goes : (p q : ℕ) → (p % 2 ≡ 0 → ⊥) → In q (exit_steps m n feeds p (p / 2)) → (q ≡ p) ⊎ Go p q
    unfolding flow_in
    exit_goes p q e t =
        let v : ℕ = p / 2 in
        ⊎_elim inl
        (⊎_elim
        (λ s. inr (go_from p q (unpass_one {w = v} s.0) (sym (place_odd p e)) (place_2 v q s.1)))
        (λ s. inr (go_from p q (send_on {v = v} {w = s.0} (f.right v s.0 s.1)) (sym (place_odd p e)) (place_2 s.0 q s.3))))
        (from_exit p q t)

    there : (p q : ℕ) → In q (residual m n feeds p) → (q ≡ p) ⊎ Go p q
    there p q t =
        ⊎_elim (λ e. entry_goes p q e (subst (In q) (at_entry p e) t)) (λ e. exit_goes p q e (subst (In q) (at_exit p e) t)) (cases_eq (p % 2) 0)

    in_entry : (w q : ℕ) → In q (entry_steps m n (2 * w) w) → In q (residual m n feeds (2 * w))
    in_entry w q t = subst (In q) (sym (at_entry (2 * w) (even_rest w) ∙ ap (entry_steps m n (2 * w)) (even_half w))) t

    in_exit : (w q : ℕ) → In q (exit_steps m n feeds (2 * w + 1) w) → In q (residual m n feeds (2 * w + 1))
    in_exit w q t = subst (In q) (sym (at_exit (2 * w + 1) (odd_rest w) ∙ ap (exit_steps m n feeds (2 * w + 1)) (odd_half w))) t

    -- the wires of a step are wires of the circuit
    fed_inside : (v w : ℕ) → Passes (circuit_of m n) w v → w < n
    fed_inside v w s = omega (arith, passes_in (circuit_of m n) w v s, wires_at_most m n)

    operand_inside : (v w : ℕ) → Passes (circuit_of m n) w v → v < n
    operand_inside v w s = omega (arith, lower (circuit_of m n) ordered v w s, fed_inside v w s)

    back : {a b : Place} → Step (circuit_of m n) (bars_of m n) ones (flow_in m n) a b → In (numbered b) (residual m n feeds (numbered a))
    unfolding flow_in
    back (pass_one {w = w} s) =
        in_entry w (2 * w + 1) (
          0,
          omega arith,
          taken (bars_of m n w || ltb (cell m n 12 w) 1) (2 * w + 1) (2 * w) (2 * w + 1)
              (⊎_elim (λ h. or_left (bars_of m n w) (ltb (cell m n 12 w) 1) h) (λ h. or_right (bars_of m n w) (ltb (cell m n 12 w) 1) (lt-ltb (cell m n 12 w) 1 h)) s) refl,
        )
    back (unpass_one {w = w} s) =
        in_exit w (2 * w) (0, omega arith, taken (ltb 0 (cell m n 12 w)) (2 * w) (2 * w + 1) (2 * w) (lt-ltb 0 (cell m n 12 w) s) refl)
    back (send_on {v = v} {w = w} s) =
        in_exit v (2 * w)
        (in_later (2 * w) (cond (ltb 0 (cell m n 12 v)) (2 * v) (2 * v + 1)) (map (λ w. cond (ltb w n) (2 * w) (2 * v + 1)) (feeds v))
        (subst (λ k. In k (map (λ w. cond (ltb w n) (2 * w) (2 * v + 1)) (feeds v)))
        (taken (ltb w n) (2 * w) (2 * v + 1) (2 * w) (lt-ltb w n (fed_inside v w s)) refl)
        (map_in (λ w. cond (ltb w n) (2 * w) (2 * v + 1)) w (feeds v) (f.all v w s))))
    back (take_back {v = v} {w = w} s) =
        let l : v < n = operand_inside v w (along_passes m n v w s) in
        in_entry w (2 * v + 1)
        (⊎_elim
        (λ t. (
          1,
          omega arith,
          taken_back n (2 * w) (2 * v + 1) (passing_kind (cell m n 0 w) && ltb 0 (cell m n 9 w)) (cell m n 1 w)
              (and_from (passing_kind (cell m n 0 w)) (ltb 0 (cell m n 9 w))
              (and_from (ltb 0 (cell m n 0 w)) (ltb (cell m n 0 w) 4) (lt-ltb 0 (cell m n 0 w) t.1) (lt-ltb (cell m n 0 w) 4 t.2))
              (lt-ltb 0 (cell m n 9 w) t.3))
              (subst (λ u. u < n) t.0 l) (ap (λ u. 2 * u + 1) (sym t.0)),
        ))
        (λ t. (
          2,
          omega arith,
          taken_back n (2 * w) (2 * v + 1) (eqb (cell m n 0 w) 3 && ltb 0 (cell m n 10 w)) (cell m n 2 w)
              (and_from (eqb (cell m n 0 w) 3) (ltb 0 (cell m n 10 w)) (eq-eqb (cell m n 0 w) 3 t.1) (lt-ltb 0 (cell m n 10 w) t.2))
              (subst (λ u. u < n) t.0 l) (ap (λ u. 2 * u + 1) (sym t.0)),
        ))
        (unit_from m n v w s))

pub residual_length : ResidualLength
unfolding residual
residual_length m n feeds p = go (eqb (p % 2) 0)
  where
    mapped : (f : ℕ → ℕ) (xs : List ℕ) → length (map f xs) ≡ length xs
    mapped f [] = refl
    mapped f (x ∷ xs) = ap suc (mapped f xs)

    go : (t : Bool) → length (cond t (entry_steps m n p (p / 2)) (exit_steps m n feeds p (p / 2))) ≡ cond t 3 (length (feeds (p / 2)) + 1)
    go true = refl
    go false = omega (arith, mapped (λ w. cond (ltb w n) (2 * w) p) (feeds (p / 2)))

pub residual_inside : ResidualInside
residual_inside m n feeds p q l t = inside m n feeds p q l t

pub residual_steps : ResidualSteps
residual_steps m n feeds ordered f p q = (
  there m n feeds ordered f p q,
  λ s. subst₂ (λ a b. In b (residual m n feeds a)) (number_place p) (number_place q) (back m n feeds ordered f s),
)

-- the steps by the rows that they are read from: kinds, operands, bars, units from the operands and units that pass
abbrev by_rows : List ℕ → List ℕ → List ℕ → List ℕ → List ℕ → List ℕ → List ℕ → ℕ → (ℕ → List ℕ) → ℕ → List ℕ
by_rows ks fs ss bs xs ys ts n feeds p =
    cond (eqb (p % 2) 0)
    (cond (ltb 0 (get_or bs (p / 2) 0) || ltb (get_or ts (p / 2) 0) 1) (2 * (p / 2) + 1) p
    ∷ back_to n p (passing_kind (get_or ks (p / 2) 0) && ltb 0 (get_or xs (p / 2) 0)) (get_or fs (p / 2) 0)
    ∷ back_to n p (eqb (get_or ks (p / 2) 0) 3 && ltb 0 (get_or ys (p / 2) 0)) (get_or ss (p / 2) 0)
    ∷ [])
    (cond (ltb 0 (get_or ts (p / 2) 0)) (2 * (p / 2)) p ∷ map (λ w. cond (ltb w n) (2 * w) p) (feeds (p / 2)))

-- the steps stay where the rows up to the flow's do
pub residual_same : (R : ℕ → Type 0) (n : ℕ) (m m' : List ℕ) → ((r : ℕ) → r < 13 → R r → ⊥) → Only R n m m' → (feeds : ℕ → List ℕ) (p : ℕ)
    → residual m' n feeds p ≡ residual m n feeds p
unfolding residual
residual_same R n m m' off o feeds p =
    λ i. by_rows (o 0 (off 0 (omega arith)) i) (o 1 (off 1 (omega arith)) i) (o 2 (off 2 (omega arith)) i) (o 3 (off 3 (omega arith)) i)
    (o 9 (off 9 (omega arith)) i) (o 10 (off 10 (omega arith)) i) (o 12 (off 12 (omega arith)) i) n feeds p
