-- Plans as ascending ranks.
use Rattle.std.proofs.Common.{◌≡◌, ℕ, zero, suc, ◌+◌, ◌<◌, ◌≤◌, Bool, true, false, cond, ◌&&◌, ◌||◌, eqb, leb, List, [], ◌∷◌, length, sym, refl, ap, ◌∙◌, ap₂, ⊎_elim, arith}
use Rattle.std.proofs.ByRecursion.{All-weaker}
use Rattle.std.proofs.lemmas.Bool.{true≢false, cases_Bool, eqb-true, eq-eqb, ne_eqb, leb-true, and_parts, cases_eq, and_from, le-leb}
use Rattle.std.specs.List.{AllByRecursion}
use Rattle.circuits.specs.Levels.{has, produced_at, plan_fits}
use Rattle.circuits.specs.declared.making.Making.{Making}
use Rattle.routes.specs.Sums.{sum_of, ranks}
use Rattle.routes.specs.Ranks.{Ascending, PlansAreAscending, OneAscendingList}
use Rattle.routes.specs.Flows.{CostIsCapacity}
use Rattle.routes.proofs.Sums.{sum_same, sum_none, sum_add, sum_zeros, all_of, all_ranks, last_or_lower}
use Rattle.routes.proofs.Wires.{not_both, has_first, has_cases, all_has, has_all}

-- a sum with one term
pub one_term : (f : ℕ → ℕ) (w n : ℕ) → w < n → sum_of (λ u. cond (eqb u w) (f u) 0) (ranks n) ≡ f w
one_term f w zero h = absurd (omega arith)
one_term f w (suc n) h =
    ⊎_elim
    (λ (e : w ≡ n).
    omega (
      arith,
      ap f e,
      ap (λ b. cond b (f n) 0) (eq-eqb n w (sym e)),
      sum_none (λ u. cond (eqb u w) (f u) 0) (ranks n) (all_ranks n (λ u l. ap (λ b. cond b (f u) 0) (ne_eqb u w (λ k. absurd (omega arith))))),
    ))
    (λ (k : w < n). omega (arith, one_term f w n k, ap (λ b. cond b (f n) 0) (ne_eqb n w (λ e. absurd (omega arith)))))
    (last_or_lower w n h)

eqb_flip : (x w : ℕ) → eqb x w ≡ eqb w x
eqb_flip x w = ⊎_elim (λ e. eq-eqb x w e ∙ sym (eq-eqb w x (sym e))) (λ n. ne_eqb x w n ∙ sym (ne_eqb w x (λ e. n (sym e)))) (cases_eq x w)

-- a number lower than all of a list is not in it
pub not_has : (x : ℕ) (xs : List ℕ) → AllByRecursion (λ y. x < y) xs → has x xs ≡ false
not_has x xs a =
    ⊎_elim (λ h. let l : x < x = all_has (λ y. x < y) xs a x h in absurd (omega arith)) (λ h. h) (cases_Bool (has x xs))

pub cost_is_capacity : CostIsCapacity
cost_is_capacity c price [] up l = sum_zeros (ranks (length c))
cost_is_capacity c price (x ∷ xs) up l =
    let ws : List ℕ = ranks (length c) in
    omega (
      arith,
      sum_same (λ w. cond (has w (x ∷ xs)) (price w) 0) (λ w. cond (eqb w x) (price w) 0 + cond (has w xs) (price w) 0) ws (all_of part ws),
      sum_add (λ w. cond (eqb w x) (price w) 0) (λ w. cond (has w xs) (price w) 0) ws,
      one_term price x (length c) l.0,
      cost_is_capacity c price xs up.1 l.1,
    )
  where
    part : (w : ℕ) → cond (has w (x ∷ xs)) (price w) 0 ≡ cond (eqb w x) (price w) 0 + cond (has w xs) (price w) 0
    part w = ap (λ b. cond (b || has w xs) (price w) 0) (eqb_flip x w) ∙ go (eqb w x) (has w xs) (λ e. ap (λ u. has u xs) (eqb-true w x e) ∙ not_has x xs up.0)
      where
        go : (a b : Bool) → (a ≡ true → b ≡ false) → cond (a || b) (price w) 0 ≡ cond a (price w) 0 + cond b (price w) 0
        go true true h = not_both refl (h refl)
        go true false h = omega arith
        go false true h = omega arith
        go false false h = omega arith

-- the first of an ascending list is its least
least : (x : ℕ) (xs : List ℕ) → Ascending (x ∷ xs) → (w : ℕ) → has w (x ∷ xs) ≡ true → x ≤ w
least x xs a w h =
    ⊎_elim (λ (e : w ≡ x). omega arith) (λ k. let l : x < w = all_has (λ y. x < y) xs a.0 w k in omega arith) (has_cases w x xs h)

pub one_ascending_list : OneAscendingList
one_ascending_list [] [] a b h = refl
one_ascending_list [] (y ∷ ys) a b h = absurd (true≢false (sym (h y ∙ has_first y ys)))
one_ascending_list (x ∷ xs) [] a b h = absurd (true≢false (sym (has_first x xs) ∙ h x))
one_ascending_list (x ∷ xs) (y ∷ ys) a b h =
    let e : x ≡ y = both (least x xs a y (h y ∙ has_first y ys)) (least y ys b x (sym (h x) ∙ has_first x xs)) in
    ap₂ (λ u us. u ∷ us) e (one_ascending_list xs ys a.1 b.1 (rest e))
  where
    both : x ≤ y → y ≤ x → x ≡ y
    both h k = omega arith

    rest : x ≡ y → (w : ℕ) → has w xs ≡ has w ys
    rest e w = ⊎_elim
        (λ k. let s : w ≡ x = sym (eqb-true x w k) in
        ap (λ u. has u xs) s ∙ not_has x xs a.0 ∙ sym (ap (λ u. has u ys) (s ∙ e) ∙ not_has y ys b.0))
        (λ k. sym (ap (λ b. b || has w xs) k) ∙ h w ∙ ap (λ b. b || has w ys) (sym (ap (λ u. eqb u w) e) ∙ k)) (cases_Bool (eqb x w))

-- what a plan that fits from low on has
fits_from : (c : List Making) (low : ℕ) (plan : List ℕ) → plan_fits c low plan ≡ true
    → AllByRecursion (λ w. low ≤ w) plan × Ascending plan × AllByRecursion (λ w. produced_at c w ≡ true) plan
fits_from c low [] h = (tt, tt, tt)
fits_from c low (x ∷ xs) h =
    let t : ((leb low x && produced_at c x) ≡ true) × (plan_fits c (x + 1) xs ≡ true) = and_parts (leb low x && produced_at c x) (plan_fits c (x + 1) xs) h in
    let u : (leb low x ≡ true) × (produced_at c x ≡ true) = and_parts (leb low x) (produced_at c x) t.0 in
    let l : low ≤ x = leb-true low x u.0 in
    let r : AllByRecursion (λ w. x + 1 ≤ w) xs × Ascending xs × AllByRecursion (λ w. produced_at c w ≡ true) xs = fits_from c (x + 1) xs t.1 in
    ((l, All-weaker (λ w. x + 1 ≤ w) (λ w. low ≤ w) (λ w k. omega arith) xs r.0), (All-weaker (λ w. x + 1 ≤ w) (λ w. x < w) (λ w k. omega arith) xs r.0, r.1), (u.1, r.2))

from_fits : (c : List Making) (low : ℕ) (plan : List ℕ) → AllByRecursion (λ w. low ≤ w) plan → Ascending plan → AllByRecursion (λ w. produced_at c w ≡ true) plan → plan_fits c low plan ≡ true
from_fits c low [] l a p = refl
from_fits c low (x ∷ xs) l a p =
    and_from (leb low x && produced_at c x) (plan_fits c (x + 1) xs) (and_from (leb low x) (produced_at c x) (le-leb low x l.0) p.0)
    (from_fits c (x + 1) xs (All-weaker (λ w. x < w) (λ w. x + 1 ≤ w) (λ w k. omega arith) xs a.0) a.1 p.1)

pub plans_are_ascending : PlansAreAscending
plans_are_ascending c plan = (
  λ h. let t : AllByRecursion (λ w. 0 ≤ w) plan × Ascending plan × AllByRecursion (λ w. produced_at c w ≡ true) plan = fits_from c 0 plan h in (t.1, t.2),
  λ h. from_fits c 0 plan (has_all plan (λ w k. omega arith)) h.0 h.1,
)
