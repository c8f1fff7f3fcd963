-- Laws of sums over lists and over ranks.
use Rattle.std.proofs.Common.{◌≡◌, ℕ, zero, suc, ◌+◌, ◌<◌, ◌≤◌, Bool, true, false, cond, ◌⊎◌, List, [], ◌∷◌, length, sym, refl, ap, subst, inl, inr, ⊎_elim, arith}
use Rattle.std.proofs.lemmas.Bool.{cases_lt}
use Rattle.std.specs.List.{AllByRecursion}
use Rattle.routes.specs.Sums.{sum_of, ranks}

pub sum_le : {A : Type 0} (f h : A → ℕ) (xs : List A) → AllByRecursion (λ x. f x ≤ h x) xs → sum_of f xs ≤ sum_of h xs
sum_le f h [] a = omega arith
sum_le f h (x ∷ xs) a = omega (arith, sum_le f h xs a.1, a.0)

pub sum_same : {A : Type 0} (f h : A → ℕ) (xs : List A) → AllByRecursion (λ x. f x ≡ h x) xs → sum_of f xs ≡ sum_of h xs
sum_same f h [] a = refl
sum_same f h (x ∷ xs) a = omega (arith, sum_same f h xs a.1, a.0)

pub sum_none : {A : Type 0} (f : A → ℕ) (xs : List A) → AllByRecursion (λ x. f x ≡ 0) xs → sum_of f xs ≡ 0
sum_none f [] a = refl
sum_none f (x ∷ xs) a = omega (arith, sum_none f xs a.1, a.0)

pub sum_add : {A : Type 0} (f h : A → ℕ) (xs : List A) → sum_of (λ x. f x + h x) xs ≡ sum_of f xs + sum_of h xs
sum_add f h [] = refl
sum_add f h (x ∷ xs) = omega (arith, sum_add f h xs)

pub sum_zeros : {A : Type 0} (xs : List A) → sum_of (λ x. 0) xs ≡ 0
sum_zeros [] = refl
sum_zeros (x ∷ xs) = omega (arith, sum_zeros xs)

pub sum_ones : {A : Type 0} (xs : List A) → sum_of (λ x. 1) xs ≡ length xs
sum_ones [] = refl
sum_ones (x ∷ xs) = omega (arith, sum_ones xs)

pub sum_swap : {A B : Type 0} (f : A → B → ℕ) (xs : List A) (ys : List B)
    → sum_of (λ x. sum_of (λ y. f x y) ys) xs ≡ sum_of (λ y. sum_of (λ x. f x y) xs) ys
sum_swap f [] ys = sym (sum_zeros ys)
sum_swap f (x ∷ xs) ys =
    omega (arith, sum_swap f xs ys, sum_add (λ y. f x y) (λ y. sum_of (λ x. f x y) xs) ys)

pub all_of : {A : Type 0} {P : A → Type 0} → ((x : A) → P x) → (xs : List A) → AllByRecursion P xs
all_of h [] = tt
all_of h (x ∷ xs) = (h x, all_of h xs)

-- over ranks
pub all_ranks : {P : ℕ → Type 0} (n : ℕ) → ((w : ℕ) → w < n → P w) → AllByRecursion P (ranks n)
all_ranks zero h = tt
all_ranks (suc n) h = (h n (omega arith), all_ranks n (λ w l. h w (omega arith)))

-- a rank below n + 1 is n or lower
pub last_or_lower : (w n : ℕ) → w < suc n → (w ≡ n) ⊎ (w < n)
last_or_lower w n h = ⊎_elim inr (λ k. inl (omega arith)) (cases_lt w n)

pub term_le : (f : ℕ → ℕ) (n w : ℕ) → w < n → f w ≤ sum_of f (ranks n)
term_le f zero w h = absurd (omega arith)
term_le f (suc n) w h =
    ⊎_elim (λ (e : w ≡ n). omega (arith, ap f e)) (λ (k : w < n). omega (arith, term_le f n w k)) (last_or_lower w n h)

-- terms that are each no larger, but whose sum is no smaller, are the same
pub sum_tight : (f h : ℕ → ℕ) (n : ℕ) → ((w : ℕ) → h w ≤ f w) → sum_of f (ranks n) ≤ sum_of h (ranks n) → (w : ℕ) → w < n → f w ≡ h w
sum_tight f h zero le s w l = absurd (omega arith)
sum_tight f h (suc n) le s w l =
    let here : h n ≤ f n = le n in
    let rest : sum_of h (ranks n) ≤ sum_of f (ranks n) = sum_le h f (ranks n) (all_of le (ranks n)) in
    ⊎_elim
    (λ (e : w ≡ n). subst (λ v. f v ≡ h v) (sym e) (omega arith))
    (λ (k : w < n). sum_tight f h n le (omega arith) w k) (last_or_lower w n l)

-- a sum above 0 has a term above 0
pub sum_positive : {A : Type 0} (f : A → ℕ) (xs : List A) → 0 < sum_of f xs → (x : A) × (0 < f x)
sum_positive f [] h = absurd (omega arith)
sum_positive f (x ∷ xs) h =
    ⊎_elim (λ k. (x, k)) (λ k. sum_positive f xs (omega arith)) (cases_lt 0 (f x))

pub cond_sum : {A : Type 0} (b : Bool) (f : A → ℕ) (xs : List A) → cond b (sum_of f xs) 0 ≡ sum_of (λ x. cond b (f x) 0) xs
cond_sum true f xs = refl
cond_sum false f xs = sym (sum_zeros xs)

pub cond_le : (b : Bool) (k : ℕ) → cond b k 0 ≤ k
cond_le true k = omega arith
cond_le false k = omega arith
