-- How many wires a set has.
use Rattle.std.proofs.Common.{◌≡◌, ℕ, zero, suc, ◌+◌, ◌<◌, ◌≤◌, Bool, true, false, cond, eqb, sym, refl, ap, ◌∙◌, ⊎_elim, arith}
use Rattle.std.proofs.lemmas.Bool.{cond_both, eqb-true, eqb-false}
use Rattle.routes.specs.Routes.{Wires}
use Rattle.routes.specs.Sums.{one_if, ranks}
use Rattle.routes.proofs.Sums.{sum_same, all_ranks, last_or_lower}
use Rattle.flows.specs.Listing.{count}

one_at_most : (b : Bool) → one_if b ≤ 1
one_at_most true = omega arith
one_at_most false = omega arith

pub count_few : (p : Wires) (n : ℕ) → count p n ≤ n
count_few p zero = omega arith
count_few p (suc n) = omega (arith, one_at_most (p n), count_few p n)

-- a set with one wire more
pub count_more : (p q : Wires) (w : ℕ) → p w ≡ false → q w ≡ true → ((v : ℕ) → (v ≡ w → ⊥) → q v ≡ p v) → (n : ℕ) → w < n → count q n ≡ count p n + 1
count_more p q w a b same zero l = absurd (omega arith)
count_more p q w a b same (suc n) l =
    ⊎_elim
    (λ (e : w ≡ n).
    let rest : count q n ≡ count p n = sum_same (λ v. one_if (q v)) (λ v. one_if (p v)) (ranks n) (all_ranks n (λ v k. ap one_if (same v (λ d. omega arith)))) in
    omega (arith, ap one_if a, ap one_if b, ap (λ v. one_if (p v)) e, ap (λ v. one_if (q v)) e))
    (λ (k : w < n). omega (arith, ap one_if (same n (λ d. omega arith)), count_more p q w a b same n k))
    (last_or_lower w n l)

-- different numbers below n are at most n
pub at_most : (n h : ℕ) (f : ℕ → ℕ) → ((k : ℕ) → k < h → f k < n) → ((j k : ℕ) → j < k → k < h → f j ≡ f k → ⊥) → h ≤ n
at_most n zero f below apart = omega arith
at_most zero (suc h) f below apart = absurd (omega (arith, below 0 (omega arith)))
at_most (suc n) (suc h) f below apart = omega (arith, at_most n h g g_below g_apart)
  where
    -- f without the number n: what had it has the last number
    g : ℕ → ℕ
    g j = cond (eqb (f j) n) (f h) (f j)

    g_below : (j : ℕ) → j < h → g j < n
    g_below j l =
        let ne : f j ≡ f h → ⊥ = apart j h l (omega arith) in
        cond_both (eqb (f j) n) (f h) (f j) (λ x. x < n)
        (λ e. omega (arith, below h (omega arith), eqb-true (f j) n e))
        (λ e. let other : f j ≡ n → ⊥ = eqb-false (f j) n e in omega (arith, below j (omega arith)))

    told_apart : (j k : ℕ) → j < k → k < h → (s t : Bool) → eqb (f j) n ≡ s → eqb (f k) n ≡ t → cond s (f h) (f j) ≡ cond t (f h) (f k) → ⊥
    told_apart j k l m true true p q e = apart j k l (omega arith) (eqb-true (f j) n p ∙ sym (eqb-true (f k) n q))
    told_apart j k l m true false p q e = apart k h m (omega arith) (sym e)
    told_apart j k l m false true p q e = apart j h (omega arith) (omega arith) e
    told_apart j k l m false false p q e = apart j k l (omega arith) e

    g_apart : (j k : ℕ) → j < k → k < h → g j ≡ g k → ⊥
    g_apart j k l m e = told_apart j k l m (eqb (f j) n) (eqb (f k) n) refl refl e
