-- The lists of the wires that each wire feeds.
use Rattle.std.proofs.Common.{◌≡◌, ℕ, zero, suc, ◌+◌, ◌-◌, ◌*◌, ◌<◌, ◌≤◌, Bool, true, false, cond, eqb, ltb, ◌⊎◌, List, [], ◌∷◌, ◌++◌, length, get_or, sym, refl, ap, ◌∙◌, subst, inl, inr, ⊎_elim, arith}
use Rattle.std.proofs.lemmas.List.{length-append, get_or_append_left, get_or-append_right}
use Rattle.std.proofs.lemmas.Bool.{cases_lt, eqb-true, eq-eqb}
use Rattle.circuits.specs.declared.making.Making.{Making}
use Rattle.circuits.specs.declared.making.Making.TheVariants.{Input, Constant, Copy, Inversion, Sum, Product}
use Rattle.routes.specs.Routes.{at, PassesOn, Passes}
use Rattle.routes.specs.Sums.{sum_of, ranks}
use Rattle.routes.specs.Stored.{slots, slots_below}
use Rattle.routes.proofs.Sums.{sum_add, sum_same, sum_zeros, all_of, last_or_lower}
use Rattle.routes.proofs.Stored.{slots_add_up}
use Rattle.routes.proofs.Traces.{prefix_le}
use Rattle.routes.proofs.Wires.{passes_in}
use Rattle.rows.specs.Fed.{one_use, uses, fed_below, fed, begins}

-- x stands in the list
abbrev pub In : ℕ → List ℕ → Type 0
In x xs = (i : ℕ) × (i < length xs) × (get_or xs i 0 ≡ x)

pub in_left : (x : ℕ) (xs ys : List ℕ) → In x xs → In x (xs ++ ys)
in_left x xs ys h = (h.0, omega (arith, h.1, length-append xs ys), get_or_append_left xs ys 0 h.0 h.1 ∙ h.2)

pub in_right : (x : ℕ) (xs ys : List ℕ) → In x ys → In x (xs ++ ys)
in_right x xs ys h =
    (length xs + h.0, omega (arith, h.1, length-append xs ys), get_or-append_right xs ys (length xs) (length xs + h.0) 0 refl (omega arith) ∙ ap (λ i. get_or ys i 0) (omega arith) ∙ h.2)

pub in_either : (x : ℕ) (xs ys : List ℕ) → In x (xs ++ ys) → In x xs ⊎ In x ys
in_either x xs ys h =
    ⊎_elim (λ (l : h.0 < length xs). inl (h.0, l, sym (get_or_append_left xs ys 0 h.0 l) ∙ h.2))
    (λ (l : length xs ≤ h.0). inr (h.0 - length xs, omega (arith, h.1, length-append xs ys), sym (get_or-append_right xs ys (length xs) h.0 0 refl l) ∙ h.2))
    (cases_lt h.0 (length xs))

in_none : {A : Type 0} (x : ℕ) → In x [] → A
in_none x h = absurd (omega (arith, h.1))

in_one : (x w : ℕ) → In x (w ∷ []) → x ≡ w
in_one x w h = let z : h.0 ≡ 0 = omega (arith, h.1) in sym h.2 ∙ ap (λ i. get_or (w ∷ []) i 0) z

used : (t : Bool) (w x : ℕ) → In x (cond t (w ∷ []) []) → (x ≡ w) × (t ≡ true)
used true w x h = (in_one x w h, refl)
used false w x h = in_none x h

one_used : (w a v x : ℕ) → In x (one_use w a v) → (x ≡ w) × (v ≡ a)
one_used w a v x h = let p = used (eqb v a) w x h in (p.0, eqb-true v a p.1)

one_using : (w a v : ℕ) → v ≡ a → In w (one_use w a v)
one_using w a v e = subst (λ t. In w (cond t (w ∷ []) [])) (sym (eq-eqb v a e)) (0, omega arith, refl)

uses_right : (m : Making) (w v x : ℕ) → In x (uses m w v) → (x ≡ w) × PassesOn m v
uses_right Input w v x h = in_none x h
uses_right (Constant b) w v x h = in_none x h
uses_right (Copy a) w v x h = one_used w a v x h
uses_right (Inversion a) w v x h = one_used w a v x h
uses_right (Sum a b) w v x h =
    ⊎_elim (λ l. let p = one_used w a v x l in (p.0, inl p.1)) (λ r. let p = one_used w b v x r in (p.0, inr p.1)) (in_either x (one_use w a v) (one_use w b v) h)
uses_right (Product a b) w v x h = in_none x h

uses_all : (m : Making) (w v : ℕ) → PassesOn m v → In w (uses m w v)
uses_all Input w v f = absurd f
uses_all (Constant b) w v f = absurd f
uses_all (Copy a) w v f = one_using w a v f
uses_all (Inversion a) w v f = one_using w a v f
uses_all (Sum a b) w v f = ⊎_elim (λ e. in_left w (one_use w a v) (one_use w b v) (one_using w a v e)) (λ e. in_right w (one_use w a v) (one_use w b v) (one_using w b v e)) f
uses_all (Product a b) w v f = absurd f

module _ (c : List Making) (v : ℕ) where
  below_right : (k x : ℕ) → In x (fed_below c k v) → Passes c x v
  below_right zero x h = in_none x h
  below_right (suc k) x h =
      ⊎_elim (below_right k x) (λ r. let p = uses_right (at c k) k v x r in subst (λ u. Passes c u v) (sym p.0) p.1) (in_either x (fed_below c k v) (uses (at c k) k v) h)

  below_all : (k w : ℕ) → w < k → Passes c w v → In w (fed_below c k v)
  below_all zero w l f = absurd (omega arith)
  below_all (suc k) w l f =
      ⊎_elim
      (λ e. in_right w (fed_below c k v) (uses (at c k) k v) (subst (λ u. In w (uses (at c u) u v)) e (uses_all (at c w) w v f)))
      (λ h. in_left w (fed_below c k v) (uses (at c k) k v) (below_all k w h f))
      (last_or_lower w k l)

  -- the list holds exactly the wires that v feeds
  pub fed_right : (x : ℕ) → In x (fed c v) → Passes c x v
  fed_right x h = below_right (length c) x h

  pub fed_all : (w : ℕ) → Passes c w v → In w (fed c v)
  fed_all w f = below_all (length c) w (passes_in c w v f) f

  pub below_grows : (k n : ℕ) → k ≤ n → length (fed_below c k v) ≤ length (fed_below c n v)
  below_grows k zero h = let e : k ≡ 0 = omega arith in omega (arith, ap (λ j. length (fed_below c j v)) e)
  below_grows k (suc n) h =
      ⊎_elim (λ (l : k < suc n). omega (arith, below_grows k n (omega arith), length-append (fed_below c n v) (uses (at c n) n v)))
      (λ (l : suc n ≤ k). let e : k ≡ suc n = omega arith in omega (arith, ap (λ j. length (fed_below c j v)) e))
      (cases_lt k (suc n))

-- each wire stands in at most two lists
one_long : (t : Bool) (w : ℕ) → length (cond t (w ∷ []) []) ≡ cond t 1 0
one_long true w = refl
one_long false w = refl

uses_long : (m : Making) (w v : ℕ) → length (uses m w v) ≡ slots m 1 1 v
uses_long Input w v = refl
uses_long (Constant b) w v = refl
uses_long (Copy a) w v = one_long (eqb v a) w
uses_long (Inversion a) w v = one_long (eqb v a) w
uses_long (Sum a b) w v = length-append (one_use w a v) (one_use w b v) ∙ omega (arith, one_long (eqb v a) w, one_long (eqb v b) w)
uses_long (Product a b) w v = refl

at_most : (t : Bool) → cond t 1 0 ≤ 1
at_most true = omega arith
at_most false = omega arith

slots_few : (m : Making) (n : ℕ) → slots_below m 1 1 n ≤ 2
slots_few Input n = omega arith
slots_few (Constant b) n = omega arith
slots_few (Copy a) n = omega (arith, at_most (ltb a n))
slots_few (Inversion a) n = omega (arith, at_most (ltb a n))
slots_few (Sum a b) n = omega (arith, at_most (ltb a n), at_most (ltb b n))
slots_few (Product a b) n = omega arith

pub below_few : (c : List Making) (n k : ℕ) → sum_of (λ v. length (fed_below c k v)) (ranks n) ≤ 2 * k
below_few c n zero = omega (arith, sum_zeros (ranks n))
below_few c n (suc k) =
    let split : sum_of (λ v. length (fed_below c (suc k) v)) (ranks n) ≡ sum_of (λ v. length (fed_below c k v) + slots (at c k) 1 1 v) (ranks n) =
    sum_same (λ v. length (fed_below c (suc k) v)) (λ v. length (fed_below c k v) + slots (at c k) 1 1 v) (ranks n)
    (all_of (λ v. length-append (fed_below c k v) (uses (at c k) k v) ∙ ap (λ j. length (fed_below c k v) + j) (uses_long (at c k) k v)) (ranks n)) in
    omega (arith, split, sum_add (λ v. length (fed_below c k v)) (slots (at c k) 1 1) (ranks n), slots_add_up.0 n (at c k) 1 1, slots_few (at c k) n, below_few c n k)

-- the lists of lower wires end before that of v begins
pub begins_apart : (c : List Making) (u v : ℕ) → u < v → begins c u + length (fed c u) ≤ begins c v
begins_apart c u v h = prefix_le (λ w. length (fed c w)) u v h

-- all lists together take at most two rows
pub begins_few : (c : List Making) (v : ℕ) → v < length c → begins c v + length (fed c v) ≤ 2 * length c
begins_few c v h = omega (arith, begins_apart c v (length c) h, below_few c (length c) (length c))
