-- Decimal numbers.
use Rattle.std.specs.Prelude.{ℕ, ◌+◌, ◌-◌, ◌*◌, Bool, true, cond, ◌&&◌, List, [], ◌∷◌, length, Some, None, Option, nat_le}

-- a decimal digit
abbrev pub digit : ℕ → Bool
digit b = nat_le 48 b && nat_le b 57

-- digits alone
abbrev pub digits : List ℕ → Bool
digits [] = true
digits (b ∷ bs) = digit b && digits bs

-- the number that digits write after a number n
abbrev pub value_after : ℕ → List ℕ → ℕ
value_after n [] = n
value_after n (b ∷ bs) = value_after (n * 10 + (b - 48)) bs

-- a number is one to ten decimal digits, at most 4,294,967,295
abbrev pub numeral : List ℕ → Bool
numeral bs = nat_le 1 (length bs) && (nat_le (length bs) 10 && (digits bs && nat_le (value_after 0 bs) 4294967295))

-- the number that a token writes, if it is one
abbrev pub value_of : List ℕ → Option ℕ
value_of bs = cond (numeral bs) (Some (value_after 0 bs)) None
