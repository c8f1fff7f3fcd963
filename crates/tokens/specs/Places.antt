-- Bytes and lines of a text.
use Rattle.std.specs.Prelude.{ℕ, ◌+◌, Bool, false, cond, ◌&&◌, ◌||◌, List, [], ◌∷◌, take, ◌==◌, nat_le}

-- a byte of a token
abbrev pub visible : ℕ → Bool
visible b = nat_le 33 b && nat_le b 126

-- a separator
abbrev pub blank : ℕ → Bool
blank b = b == 9 || (b == 13 || b == 32)

-- how many lines end in these bytes
abbrev pub ends : List ℕ → ℕ
ends [] = 0
ends (b ∷ bs) = cond (b == 10) (1 + ends bs) (ends bs)

-- the line of the byte at an offset: lines count from 1
abbrev pub line_of : List ℕ → ℕ → ℕ
line_of text at = 1 + ends (take at text)

-- how many lines of these bytes have a token, where one may have begun already on the first
abbrev pub lines_from : Bool → List ℕ → ℕ
lines_from begun [] = cond begun 1 0
lines_from begun (b ∷ bs) = cond (b == 10) (cond begun 1 0 + lines_from false bs) (lines_from (begun || visible b) bs)

-- how many lines of a text have a token
abbrev pub token_lines : List ℕ → ℕ
token_lines text = lines_from false text
