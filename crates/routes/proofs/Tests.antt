-- Tests that tell products, ends, steps and places.
use Rattle.std.proofs.Common.{◌≡◌, ℕ, zero, suc, ◌<◌, Bool, true, false, ◌&&◌, ◌||◌, eqb, ltb, ◌⊎◌, List, [], ◌∷◌, length, sym, refl, ap, ◌∙◌, subst, inl, inr, ⊎_elim, arith}
use Rattle.std.proofs.lemmas.Bool.{ltb-true, eqb-true, and_parts, lt-ltb, eq-eqb, true≢false, or_cases, or_left, or_right, and_from}
use Rattle.circuits.specs.declared.making.Making.{Making}
use Rattle.circuits.specs.declared.making.Making.TheVariants.{Input, Constant, Copy, Inversion, Sum, Product}
use Rattle.routes.specs.Routes.{at, Takes, Multiplies, PassesOn, Operand, IsProduct, Passes, Ordered, Wires, Ends}
use Rattle.routes.specs.Flows.{Flow, IsFlow}
use Rattle.routes.specs.Residuals.{Place, Step, Reached, entry, exit, pass_one, unpass_one, send_on, take_back, at_product, by_step}
use Rattle.routes.proofs.Sums.{last_or_lower}
use Rattle.routes.proofs.Wires.{product_in, passes_in, passes_operand, operand_lower}

-- tests of how a wire is made
abbrev multiplies? : Making → Bool
multiplies? Input = false
multiplies? (Constant b) = false
multiplies? (Copy a) = false
multiplies? (Inversion a) = false
multiplies? (Sum a b) = false
multiplies? (Product a b) = true

abbrev passes_on? : Making → ℕ → Bool
passes_on? Input v = false
passes_on? (Constant b) v = false
passes_on? (Copy a) v = eqb v a
passes_on? (Inversion a) v = eqb v a
passes_on? (Sum a b) v = eqb v a || eqb v b
passes_on? (Product a b) v = false

abbrev uses? : Making → ℕ → Bool
uses? Input v = false
uses? (Constant b) v = false
uses? (Copy a) v = false
uses? (Inversion a) v = false
uses? (Sum a b) v = false
uses? (Product a b) v = eqb v a || eqb v b

abbrev pub some_below : ℕ → (ℕ → Bool) → Bool
some_below zero f = false
some_below (suc n) f = f n || some_below n f

abbrev pub all_below : ℕ → (ℕ → Bool) → Bool
all_below zero f = true
all_below (suc n) f = f n && all_below n f

abbrev pub ends? : List Making → ℕ → Bool
ends? c v = some_below (length c) (λ u. uses? (at c u) v)

-- what the tests mean
pub all_below_at : (n : ℕ) (f : ℕ → Bool) → all_below n f ≡ true → (w : ℕ) → w < n → f w ≡ true
all_below_at zero f h w l = absurd (omega arith)
all_below_at (suc n) f h w l =
    let t : (f n ≡ true) × (all_below n f ≡ true) = and_parts (f n) (all_below n f) h in
    ⊎_elim (λ (e : w ≡ n). ap f e ∙ t.0) (λ (k : w < n). all_below_at n f t.1 w k) (last_or_lower w n l)

pub some_below_at : (n : ℕ) (f : ℕ → Bool) → some_below n f ≡ true → (w : ℕ) × (f w ≡ true)
some_below_at zero f h = absurd (true≢false (sym h))
some_below_at (suc n) f h = ⊎_elim (λ k. (n, k)) (λ k. some_below_at n f k) (or_cases (f n) (some_below n f) h)

pub some_below_from : (n : ℕ) (f : ℕ → Bool) (w : ℕ) → w < n → f w ≡ true → some_below n f ≡ true
some_below_from zero f w l h = absurd (omega arith)
some_below_from (suc n) f w l h =
    ⊎_elim (λ (e : w ≡ n). or_left (f n) (some_below n f) (sym (ap f e) ∙ h)) (λ (k : w < n). or_right (f n) (some_below n f) (some_below_from n f w k h))
    (last_or_lower w n l)

multiplies_from : (m : Making) → multiplies? m ≡ true → Multiplies m
multiplies_from Input h = absurd (true≢false (sym h))
multiplies_from (Constant b) h = absurd (true≢false (sym h))
multiplies_from (Copy a) h = absurd (true≢false (sym h))
multiplies_from (Inversion a) h = absurd (true≢false (sym h))
multiplies_from (Sum a b) h = absurd (true≢false (sym h))
multiplies_from (Product a b) h = tt

multiplies_true : (m : Making) → Multiplies m → multiplies? m ≡ true
multiplies_true Input h = absurd h
multiplies_true (Constant b) h = absurd h
multiplies_true (Copy a) h = absurd h
multiplies_true (Inversion a) h = absurd h
multiplies_true (Sum a b) h = absurd h
multiplies_true (Product a b) h = refl

either_from : (v a b : ℕ) → (eqb v a || eqb v b) ≡ true → (v ≡ a) ⊎ (v ≡ b)
either_from v a b h = ⊎_elim (λ k. inl (eqb-true v a k)) (λ k. inr (eqb-true v b k)) (or_cases (eqb v a) (eqb v b) h)

either_true : (v a b : ℕ) → (v ≡ a) ⊎ (v ≡ b) → (eqb v a || eqb v b) ≡ true
either_true v a b h = ⊎_elim (λ k. or_left (eqb v a) (eqb v b) (eq-eqb v a k)) (λ k. or_right (eqb v a) (eqb v b) (eq-eqb v b k)) h

passes_on_from : (m : Making) (v : ℕ) → passes_on? m v ≡ true → PassesOn m v
passes_on_from Input v h = absurd (true≢false (sym h))
passes_on_from (Constant b) v h = absurd (true≢false (sym h))
passes_on_from (Copy a) v h = eqb-true v a h
passes_on_from (Inversion a) v h = eqb-true v a h
passes_on_from (Sum a b) v h = either_from v a b h
passes_on_from (Product a b) v h = absurd (true≢false (sym h))

passes_on_true : (m : Making) (v : ℕ) → PassesOn m v → passes_on? m v ≡ true
passes_on_true Input v h = absurd h
passes_on_true (Constant b) v h = absurd h
passes_on_true (Copy a) v h = eq-eqb v a h
passes_on_true (Inversion a) v h = eq-eqb v a h
passes_on_true (Sum a b) v h = either_true v a b h
passes_on_true (Product a b) v h = absurd h

uses_from : (m : Making) (v : ℕ) → uses? m v ≡ true → Multiplies m × Takes m v
uses_from Input v h = absurd (true≢false (sym h))
uses_from (Constant b) v h = absurd (true≢false (sym h))
uses_from (Copy a) v h = absurd (true≢false (sym h))
uses_from (Inversion a) v h = absurd (true≢false (sym h))
uses_from (Sum a b) v h = absurd (true≢false (sym h))
uses_from (Product a b) v h = (tt, either_from v a b h)

uses_true : (m : Making) (v : ℕ) → Multiplies m → Takes m v → uses? m v ≡ true
uses_true Input v f h = absurd f
uses_true (Constant b) v f h = absurd f
uses_true (Copy a) v f h = absurd f
uses_true (Inversion a) v f h = absurd f
uses_true (Sum a b) v f h = absurd f
uses_true (Product a b) v f h = either_true v a b h

-- tests of the circuit and the wire
abbrev pub product? : List Making → ℕ → Bool
product? c w = multiplies? (at c w)

abbrev pub passes? : List Making → ℕ → ℕ → Bool
passes? c w v = passes_on? (at c w) v

pub product_from : (c : List Making) (w : ℕ) → product? c w ≡ true → IsProduct c w
product_from c w h = multiplies_from (at c w) h

pub product_true : (c : List Making) (w : ℕ) → IsProduct c w → product? c w ≡ true
product_true c w f = multiplies_true (at c w) f

pub passes_from : (c : List Making) (w v : ℕ) → passes? c w v ≡ true → Passes c w v
passes_from c w v h = passes_on_from (at c w) v h

passes_true : (c : List Making) (w v : ℕ) → Passes c w v → passes? c w v ≡ true
passes_true c w v f = passes_on_true (at c w) v f

pub ends_from : (c : List Making) (v : ℕ) → ends? c v ≡ true → Ends c v
ends_from c v h =
    let t : (u : ℕ) × (uses? (at c u) v ≡ true) = some_below_at (length c) (λ u. uses? (at c u) v) h in
    let k : IsProduct c t.0 × Operand c t.0 v = uses_from (at c t.0) v t.1 in
    (t.0, k.0, k.1)

pub ends_true : (c : List Making) (v : ℕ) → Ends c v → ends? c v ≡ true
ends_true c v t = some_below_from (length c) (λ u. uses? (at c u) v) t.0 (product_in c t.0 t.1) (uses_true (at c t.0) v t.1 t.2)

-- places
abbrev pub same? : Place → Place → Bool
same? (entry w) (entry u) = eqb w u
same? (entry w) (exit u) = false
same? (exit w) (entry u) = false
same? (exit w) (exit u) = eqb w u

abbrev pub among : List Place → Place → Bool
among [] a = false
among (b ∷ bs) a = same? a b || among bs a

abbrev pub rank_of : Place → ℕ
rank_of (entry w) = w
rank_of (exit w) = w

pub same_self : (a : Place) → same? a a ≡ true
same_self (entry w) = eq-eqb w w refl
same_self (exit w) = eq-eqb w w refl

pub same_from : (a b : Place) → same? a b ≡ true → a ≡ b
same_from (entry w) (entry u) h = ap entry (eqb-true w u h)
same_from (entry w) (exit u) h = absurd (true≢false (sym h))
same_from (exit w) (entry u) h = absurd (true≢false (sym h))
same_from (exit w) (exit u) h = ap exit (eqb-true w u h)

abbrev pub some_place : List Place → (Place → Bool) → Bool
some_place [] f = false
some_place (a ∷ as') f = f a || some_place as' f

abbrev pub step? : List Making → Wires → (ℕ → ℕ) → Flow → Place → Place → Bool
step? c barred price x (entry w) (entry v) = false
step? c barred price x (entry w) (exit v) = (eqb v w && (barred w || ltb (x.through w) (price w))) || ltb 0 (x.along v w)
step? c barred price x (exit v) (entry w) = (eqb v w && ltb 0 (x.through w)) || passes? c w v
step? c barred price x (exit w) (exit v) = false

abbrev pub begins? : List Making → Place → Bool
begins? c (entry w) = product? c w
begins? c (exit w) = false

module _ (c : List Making) (ordered : Ordered c) (barred : Wires) (price : ℕ → ℕ) (x : Flow) (flow : IsFlow c barred price x) where
  step_from : (a b : Place) → step? c barred price x a b ≡ true → Step c barred price x a b
  step_from (entry w) (entry v) h = absurd (true≢false (sym h))
  step_from (entry w) (exit v) h =
      ⊎_elim
      (λ k. let t : (eqb v w ≡ true) × ((barred w || ltb (x.through w) (price w)) ≡ true) = and_parts (eqb v w) (barred w || ltb (x.through w) (price w)) k in
      subst (λ u. Step c barred price x (entry w) (exit u)) (sym (eqb-true v w t.0))
      (pass_one (⊎_elim inl (λ l. inr (ltb-true (x.through w) (price w) l)) (or_cases (barred w) (ltb (x.through w) (price w)) t.1))))
      (λ k. take_back (ltb-true 0 (x.along v w) k))
      (or_cases (eqb v w && (barred w || ltb (x.through w) (price w))) (ltb 0 (x.along v w)) h)
  step_from (exit v) (entry w) h =
      ⊎_elim
      (λ k. let t : (eqb v w ≡ true) × (ltb 0 (x.through w) ≡ true) = and_parts (eqb v w) (ltb 0 (x.through w)) k in
      subst (λ u. Step c barred price x (exit u) (entry w)) (sym (eqb-true v w t.0)) (unpass_one (ltb-true 0 (x.through w) t.1)))
      (λ k. send_on (passes_from c w v k))
      (or_cases (eqb v w && ltb 0 (x.through w)) (passes? c w v) h)
  step_from (exit w) (exit v) h = absurd (true≢false (sym h))

  pub step_true : {a b : Place} → Step c barred price x a b → step? c barred price x a b ≡ true
  step_true (pass_one {w = w} s) =
      or_left (eqb w w && (barred w || ltb (x.through w) (price w))) (ltb 0 (x.along w w))
      (and_from (eqb w w) (barred w || ltb (x.through w) (price w)) (eq-eqb w w refl)
      (⊎_elim (λ k. or_left (barred w) (ltb (x.through w) (price w)) k) (λ k. or_right (barred w) (ltb (x.through w) (price w)) (lt-ltb (x.through w) (price w) k)) s))
  step_true (unpass_one {w = w} s) =
      or_left (eqb w w && ltb 0 (x.through w)) (passes? c w w) (and_from (eqb w w) (ltb 0 (x.through w)) (eq-eqb w w refl) (lt-ltb 0 (x.through w) s))
  step_true (send_on {v = v} {w = w} s) = or_right (eqb v w && ltb 0 (x.through w)) (passes? c w v) (passes_true c w v s)
  step_true (take_back {v = v} {w = w} s) =
      or_right (eqb v w && (barred w || ltb (x.through w) (price w))) (ltb 0 (x.along v w)) (lt-ltb 0 (x.along v w) s)

  pub step_in : {a b : Place} → Step c barred price x a b → rank_of a < length c → rank_of b < length c
  step_in (pass_one s) l = l
  step_in (unpass_one s) l = l
  step_in (send_on {v = v} {w = w} s) l = passes_in c w v s
  step_in (take_back {v = v} {w = w} s) l = let k : v < w = operand_lower c ordered w v (passes_operand c w v (flow.passed_on v w s)) in omega arith

  pub begins_reached : (a : Place) → begins? c a ≡ true → Reached c barred price x a
  begins_reached (entry w) h = at_product (product_from c w h)
  begins_reached (exit w) h = absurd (true≢false (sym h))

  pub from_some : (bs : List Place) (b : Place) → some_place bs (λ a. step? c barred price x a b) ≡ true
      → ((a : Place) → among bs a ≡ true → Reached c barred price x a) → Reached c barred price x b
  from_some [] b h k = absurd (true≢false (sym h))
  from_some (a ∷ bs) b h k =
      ⊎_elim (λ e. by_step (k a (or_left (same? a a) (among bs a) (same_self a))) (step_from a b e))
      (λ e. from_some bs b e (λ q m. k q (or_right (same? q a) (among bs q) m))) (or_cases (step? c barred price x a b) (some_place bs (λ a. step? c barred price x a b)) h)
