-- Plans: what a plan that fits has, and what makes one fit.
use Rattle.std.proofs.Common.{◌≡◌, ℕ, zero, suc, ◌+◌, ◌<◌, ◌≤◌, Bool, true, false, ◌&&◌, eqb, leb, nat_lt, List, [], ◌∷◌, length, get_or, sym, refl, ap, ◌∙◌, subst, inl, inr, arith}
use Rattle.std.specs.List.{IsAllAdjacentAnswer}
use Rattle.std.proofs.lemmas.Option.{slice_get_past}
use Rattle.std.proofs.lemmas.Bool.{MatchBool-at_true, MatchBool-at_false, ltb-true, ltb-false, lt-ltb, cases_Bool, cases_lt, both_ways, and_parts, and_from, leb-true, le-leb, ne_eqb, or_from}
use Rattle.circuits.specs.Levels.{produced_of, produced_at, plan_fits, has}
use Rattle.circuits.specs.declared.making.Making.{Making}

pub produced_below : (ms : List Making) (k : ℕ) → produced_at ms k ≡ true → k < length ms
produced_below ms k e =
    elim (cases_lt k (length ms)) [ inl h ↦ h | inr l ↦ absurd (both_ways (produced_at ms k) (ap produced_of (slice_get_past ms k l)) e) ]

-- strictly ascending ranks of produced wires make a plan that fits
fits_from : (ms : List Making) (low : ℕ) (xs : List ℕ) → (0 < length xs → low ≤ get_or xs 0 0) → ((k : ℕ) → k + 1 < length xs → get_or xs k 0 < get_or xs (k + 1) 0) → ((k : ℕ) → k < length xs → produced_at ms (get_or xs k 0) ≡ true) → plan_fits ms low xs ≡ true
fits_from ms low [] first rises made = refl
fits_from ms low (x ∷ xs) first rises made =
    and_from (leb low x && produced_at ms x) (plan_fits ms (x + 1) xs)
    (and_from (leb low x) (produced_at ms x) (le-leb low x (first (omega arith))) (made 0 (omega arith)))
    (fits_from ms (x + 1) xs (λ h. omega (arith, rises 0 (omega arith))) (λ k h. let s : suc k + 1 ≡ suc (k + 1) = omega arith in subst (λ i. get_or xs k 0 < get_or (x ∷ xs) i 0) s (rises (suc k) (omega arith))) (λ k h. made (suc k) (omega arith)))

fits_above : (ms : List Making) (low : ℕ) (xs : List ℕ) (k : ℕ) → plan_fits ms low xs ≡ true → k < length xs → (low ≤ get_or xs k 0) × (produced_at ms (get_or xs k 0) ≡ true)
fits_above ms low [] k e h = absurd (omega arith)
fits_above ms low (x ∷ xs) zero e h =
    let p = and_parts (leb low x) (produced_at ms x) (and_parts (leb low x && produced_at ms x) (plan_fits ms (x + 1) xs) e).0 in
    (leb-true low x p.0, p.1)
fits_above ms low (x ∷ xs) (suc k) e h =
    let p = and_parts (leb low x && produced_at ms x) (plan_fits ms (x + 1) xs) e in
    let l = leb-true low x (and_parts (leb low x) (produced_at ms x) p.0).0 in
    let r = fits_above ms (x + 1) xs k p.1 (omega arith) in
    (omega (arith, l, r.0), r.1)

fits_rising : (ms : List Making) (low : ℕ) (xs : List ℕ) (k : ℕ) → plan_fits ms low xs ≡ true → k + 1 < length xs → get_or xs k 0 < get_or xs (k + 1) 0
fits_rising ms low [] k e h = absurd (omega arith)
fits_rising ms low (x ∷ xs) zero e h =
    let r = fits_above ms (x + 1) xs 0 (and_parts (leb low x && produced_at ms x) (plan_fits ms (x + 1) xs) e).1 (omega arith) in
    omega (arith, r.0)
fits_rising ms low (x ∷ xs) (suc k) e h =
    let s : suc (k + 1) ≡ suc k + 1 = omega arith in
    subst (λ i. get_or xs k 0 < get_or (x ∷ xs) i 0) s (fits_rising ms (x + 1) xs k (and_parts (leb low x && produced_at ms x) (plan_fits ms (x + 1) xs) e).1 (omega arith))

module _ (ms : List Making) (plan : List ℕ) where
  -- what `is_sorted_by` answers of the ranks, where some do not ascend
  pub plan_falls : (sorted : Bool) → sorted ≡ false → IsAllAdjacentAnswer (λ x y b. b ≡ nat_lt x y) plan sorted → sorted ≡ plan_fits ms 0 plan
  plan_falls sorted off answer =
      let f = MatchBool-at_false _ _ off answer in
      let l : get_or plan (f.0 + 1) 0 ≤ get_or plan f.0 0 = ltb-false (get_or plan f.0 0) (get_or plan (f.0 + 1) 0) (sym (f.2 0)) in
      elim (cases_Bool (plan_fits ms 0 plan)) [ inl e ↦ absurd (omega (arith, l, fits_rising ms 0 plan f.0 e f.1)) | inr e ↦ off ∙ sym e ]

  -- what `all` answers of them, where they ascend
  pub plan_is : (sorted r : Bool) → sorted ≡ true → IsAllAdjacentAnswer (λ x y b. b ≡ nat_lt x y) plan sorted
      → (r ≡ true → (k : ℕ) → k < length plan → produced_at ms (get_or plan k 0) ≡ true)
      → (r ≡ false → (k : ℕ) × (k < length plan) × (produced_at ms (get_or plan k 0) ≡ false)) → r ≡ plan_fits ms 0 plan
  plan_is sorted true on answer passes fails =
      let a = MatchBool-at_true _ _ on answer in
      sym (fits_from ms 0 plan (λ h. omega arith) (λ k h. ltb-true (get_or plan k 0) (get_or plan (k + 1) 0) (sym (a k 0 h))) (passes refl))
  plan_is sorted false on answer passes fails =
      let n = fails refl in
      elim (cases_Bool (plan_fits ms 0 plan)) [ inl e ↦ absurd (both_ways (produced_at ms (get_or plan n.0 0)) n.2 (fits_above ms 0 plan n.0 e n.1).1) | inr e ↦ sym e ]

made_from : (ms : List Making) (plan : List ℕ) → (0 < length plan → produced_at ms (get_or plan 0 0) ≡ true) → ((k : ℕ) → k + 1 < length plan → produced_at ms (get_or plan (k + 1) 0) ≡ true)
    → (k : ℕ) → k < length plan → produced_at ms (get_or plan k 0) ≡ true
made_from ms plan first others zero h = first h
made_from ms plan first others (suc k) h =
    let s : k + 1 ≡ suc k = omega arith in
    subst (λ i. produced_at ms (get_or plan i 0) ≡ true) s (others k (omega arith))

-- what `is_sorted_by` answers of the ranks, where each but the first is that of a produced wire above the one before it
pub neighbours_fit : (ms : List Making) (plan : List ℕ) (sorted : Bool) → (0 < length plan → produced_at ms (get_or plan 0 0) ≡ true)
    → IsAllAdjacentAnswer (λ x y b. b ≡ (nat_lt x y && produced_at ms y)) plan sorted → sorted ≡ plan_fits ms 0 plan
neighbours_fit ms plan sorted first answer =
    elim (cases_Bool sorted) [
      | inl on ↦
          let a = MatchBool-at_true _ _ on answer in
          let holds : (k : ℕ) → k + 1 < length plan → (nat_lt (get_or plan k 0) (get_or plan (k + 1) 0) ≡ true) × (produced_at ms (get_or plan (k + 1) 0) ≡ true) =
          λ k h. and_parts (nat_lt (get_or plan k 0) (get_or plan (k + 1) 0)) (produced_at ms (get_or plan (k + 1) 0)) (sym (a k 0 h)) in
          on ∙ sym (fits_from ms 0 plan (λ h. omega arith) (λ k h. ltb-true (get_or plan k 0) (get_or plan (k + 1) 0) (holds k h).0) (made_from ms plan first (λ k h. (holds k h).1)))
      | inr off ↦
          let f = MatchBool-at_false _ _ off answer in
          let low = get_or plan f.0 0 in
          let high = get_or plan (f.0 + 1) 0 in
          elim (cases_Bool (plan_fits ms 0 plan)) [
            | inl e ↦ absurd (both_ways (nat_lt low high && produced_at ms high) (sym (f.2 0)) (and_from (nat_lt low high) (produced_at ms high) (lt-ltb low high (fits_rising ms 0 plan f.0 e f.1)) (fits_above ms 0 plan (f.0 + 1) e f.1).1))
            | inr e ↦ off ∙ sym e
          ]
    ]

-- a rank below all of a plan is not in it
pub has_below : (ms : List Making) (low k : ℕ) (xs : List ℕ) → plan_fits ms low xs ≡ true → k < low → has k xs ≡ false
has_below ms low k [] e h = refl
has_below ms low k (x ∷ xs) e h =
    let p = and_parts (leb low x && produced_at ms x) (plan_fits ms (x + 1) xs) e in
    let l = leb-true low x (and_parts (leb low x) (produced_at ms x) p.0).0 in
    let d : x ≡ k → ⊥ = λ q. omega arith in
    or_from (eqb x k) (has k xs) (ne_eqb x k d) (has_below ms (x + 1) k xs p.1 (omega arith))

-- a plan that fits from k on and does not begin with k fits from k + 1 on
pub fits_later : (ms : List Making) (k : ℕ) (xs : List ℕ) → plan_fits ms k xs ≡ true → (0 < length xs → get_or xs 0 0 ≡ k → ⊥) → plan_fits ms (k + 1) xs ≡ true
fits_later ms k [] e apart = refl
fits_later ms k (x ∷ xs) e apart =
    let p = and_parts (leb k x && produced_at ms x) (plan_fits ms (x + 1) xs) e in
    let q = and_parts (leb k x) (produced_at ms x) p.0 in
    let l = leb-true k x q.0 in
    let d : x ≡ k → ⊥ = apart (omega arith) in
    and_from (leb (k + 1) x && produced_at ms x) (plan_fits ms (x + 1) xs) (and_from (leb (k + 1) x) (produced_at ms x) (le-leb (k + 1) x (omega arith)) q.1) p.1
