-- Sums over the places, and how one place changes them.
use Rattle.std.proofs.Common.{◌≡◌, ℕ, zero, suc, ◌+◌, ◌-◌, ◌<◌, ◌≤◌, min, ◌≢◌, List, length, sym, refl, ap, subst, ⊎_elim, arith}
use Rattle.std.proofs.lemmas.Bool.{cases_eq}
use Rattle.search.specs.Graphs.{row}
use Rattle.search.specs.Rows.{mark, tried}
use Rattle.search.specs.Walks.{sum_to, tally}

pub sum_le : (f g : ℕ → ℕ) (n : ℕ) → ((q : ℕ) → q < n → g q ≤ f q) → sum_to g n ≤ sum_to f n
unfolding sum_to
sum_le f g zero le = omega arith
sum_le f g (suc n) le = omega (arith, sum_le f g n (λ q h. le q (omega arith)), le n (omega arith))

-- the sum falls by d where one summand does and no other rises
pub sum_falls : (f g : ℕ → ℕ) (d p n : ℕ) → p < n → g p + d ≤ f p → ((q : ℕ) → q < n → q ≢ p → g q ≤ f q) → sum_to g n + d ≤ sum_to f n
unfolding sum_to
sum_falls f g d p zero h here others = absurd (let z : ⊥ = omega arith in z)
sum_falls f g d p (suc n) h here others =
    ⊎_elim
    (λ (e : p ≡ n).
    let rest = sum_le f g n (λ q l. others q (omega arith) (omega arith)) in
    let last : g n + d ≤ f n = subst (λ x. g x + d ≤ f x) e here in
    omega arith)
    (λ (ne : p ≡ n → ⊥).
    let rest = sum_falls f g d p n (omega arith) here (λ q l. others q (omega arith)) in
    let last = others n (omega arith) (λ e. ne (sym e)) in
    omega arith)
    (cases_eq p n)

pub sum_ones : (n : ℕ) → sum_to (λ _. 1) n ≤ n
unfolding sum_to
sum_ones zero = omega arith
sum_ones (suc n) = omega (arith, sum_ones n)

-- an unmarked place leaves room
pub tally_room : (base n : ℕ) (m : List ℕ) (p : ℕ) → p < n → mark base m p ≡ 0 → tally base n m < n
tally_room base n m p h free =
    let some : sum_to (λ q. min 1 (mark base m q)) n + 1 ≤ sum_to (λ _. 1) n =
    sum_falls (λ _. 1) (λ q. min 1 (mark base m q)) 1 p n h (omega arith) (λ q l ne. omega arith) in
    omega (arith, some, sum_ones n)

pub tally_fits : (base n : ℕ) (m : List ℕ) → tally base n m ≤ n
tally_fits base n m = omega (arith, sum_le (λ _. 1) (λ q. min 1 (mark base m q)) n (λ q l. omega arith), sum_ones n)

-- what a place adds to the measure: all its steps and two more, until it is marked, and then the steps left
pub load : ℕ → ℕ → ℕ → ℕ
load zero d t = d + 2
load (suc v) d t = d - t

pub load_marked : (v d t : ℕ) → 0 < v → load v d t ≡ d - t
unfolding load
load_marked zero d t h = absurd (let z : ⊥ = omega arith in z)
load_marked (suc v) d t h = refl

pub load_free : (v d t : ℕ) → v ≡ 0 → load v d t ≡ d + 2
unfolding load
load_free v d t e = ap (λ x. load x d t) e

abbrev pub loads : List (List ℕ) → ℕ → ℕ → List ℕ → ℕ → ℕ
loads lists base n m q = load (mark base m q) (length (row lists q)) (tried base n m q)

-- the steps that are left, and those of the places that are not marked
abbrev pub ahead : List (List ℕ) → ℕ → ℕ → List ℕ → ℕ
ahead lists base n m = sum_to (loads lists base n m) n
