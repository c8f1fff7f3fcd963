-- Sums over lists and over ranks.
use Rattle.std.specs.Prelude.{ℕ, zero, suc, ◌+◌, Bool, cond, List, [], ◌∷◌}

-- the sum of f over a list
abbrev pub sum_of : {A : Type 0} → (A → ℕ) → List A → ℕ
sum_of f [] = 0
sum_of f (x ∷ xs) = f x + sum_of f xs

-- the ranks below n
abbrev pub ranks : ℕ → List ℕ
ranks zero = []
ranks (suc n) = n ∷ ranks n

-- 1 for true
abbrev pub one_if : Bool → ℕ
one_if b = cond b 1 0
