-- Routes that stand, and routes apart.
use Rattle.std.proofs.Common.{◌≡◌, ℕ, ◌+◌, ◌≤◌, Bool, true, false, List, [], ◌∷◌, sym, ap, ◌∙◌, ⊎_elim, arith}
use Rattle.std.proofs.ByRecursion.{All-weaker}
use Rattle.std.proofs.lemmas.Bool.{true≢false, cases_Bool}
use Rattle.std.specs.List.{AllByRecursion}
use Rattle.circuits.specs.Levels.{has}
use Rattle.routes.specs.Routes.{Wires, Hits}
use Rattle.routes.specs.Sums.{sum_of, one_if}
use Rattle.routes.specs.Standing.{passing, Apart, ApartIsOneEach}
use Rattle.routes.proofs.Sums.{sum_none}
use Rattle.routes.proofs.Wires.{has_first, has_later, has_cases}

-- of a row that a set hits, a wire is in the set
pub hit_wire : (p : Wires) (r : List ℕ) → Hits p r → (w : ℕ) × (p w ≡ true) × (has w r ≡ true)
hit_wire p [] h = absurd h
hit_wire p (x ∷ xs) h =
    ⊎_elim
    (λ e. (x, e, has_first x xs))
    (λ k. let t : (w : ℕ) × (p w ≡ true) × (has w xs ≡ true) = hit_wire p xs k in
    (t.0, t.1, has_later t.0 x xs t.2)) h

-- the part of a number in a list is in the sum over the list
pub has_le : (f : ℕ → ℕ) (ps : List ℕ) (w : ℕ) → has w ps ≡ true → f w ≤ sum_of f ps
has_le f [] w h = absurd (true≢false (sym h))
has_le f (x ∷ xs) w h =
    ⊎_elim
    (λ (e : w ≡ x). omega (arith, ap f e))
    (λ k. omega (arith, has_le f xs w k)) (has_cases w x xs h)

pub one_if_true : (b : Bool) → b ≡ true → one_if b ≡ 1
one_if_true b e = ap one_if e

-- of rows that share no unbarred wire one at most passes each
apart_within : (barred : Wires) (rs : List (List ℕ)) → Apart barred rs → (w : ℕ) → barred w ≡ false → passing rs w ≤ 1
apart_within barred [] a w u = omega arith
apart_within barred (r ∷ rs) a w u =
    ⊎_elim
    (λ e. let none : sum_of (λ s. one_if (has w s)) rs ≡ 0 =
    sum_none (λ s. one_if (has w s)) rs
    (All-weaker (λ s. (w : ℕ) → has w r ≡ true → has w s ≡ true → barred w ≡ true) (λ s. one_if (has w s) ≡ 0)
    (λ s h. ⊎_elim (λ k. absurd (true≢false (sym (h w e k) ∙ u))) (λ k. ap one_if k) (cases_Bool (has w s))) rs a.0) in
    omega (arith, one_if_true (has w r) e))
    (λ e. omega (arith, ap one_if e, apart_within barred rs a.1 w u))
    (cases_Bool (has w r))

pub apart_is_one_each : ApartIsOneEach
apart_is_one_each barred rs = (apart_within barred rs, back rs)
  where
    back : (rs : List (List ℕ)) → ((w : ℕ) → barred w ≡ false → passing rs w ≤ 1) → Apart barred rs
    back [] h = tt
    back (r ∷ rs) h = (others rs (λ w u. h w u), back rs (λ w u. omega (arith, h w u)))
      where
        others : (ss : List (List ℕ)) → ((w : ℕ) → barred w ≡ false → one_if (has w r) + passing ss w ≤ 1)
            → AllByRecursion (λ s. (w : ℕ) → has w r ≡ true → has w s ≡ true → barred w ≡ true) ss
        others [] k = tt
        others (s ∷ ss) k = (
          (λ w e f. ⊎_elim (λ b. b) (λ b. absurd (omega (arith, k w b, ap one_if e, ap one_if f))) (cases_Bool (barred w))),
          others ss (λ w u. omega (arith, k w u)),
        )
