-- A memory as rows of as many numbers as there are wires.
use Rattle.std.specs.Prelude.{◌≡◌, ℕ, ◌+◌, ◌*◌, ◌^◌, ◌<◌, ◌≤◌, ◌⊎◌, List, length, take, drop, slice_index, slice_set}
use Rattle.rows.specs.declared.rows.Row.{Row}
use Rattle.rows.specs.declared.rows.Row.TheVariants.{Kind, First, Second, Bars, Goals, Lists, Fed, FedSecond, Start, FromFirst, FromSecond, Finish, Through, Marks, MarksSecond, Stack, StackSecond, Tried, TriedSecond, Ended, Spare, SpareSecond, SpareThird, SpareFourth}
use Rattle.rows.specs.declared.rows.Rows.{Rows}

-- the wires are few enough, and there are 24 rows
pub record Room (n : ℕ) (m : List ℕ) : Type 0 where
  pub few : n ≤ 2 ^ 20
  pub rows : 24 * n ≤ length m

-- a row
unfoldable pub row_of : List ℕ → ℕ → ℕ → List ℕ
row_of m n r = take n (drop (r * n) m)

-- the number of a wire in a row; 0 past the last wire
abbrev pub cell : List ℕ → ℕ → ℕ → ℕ → ℕ
cell m n r w = slice_index (row_of m n r) w

-- the memory after one write
abbrev pub written : List ℕ → ℕ → ℕ → ℕ → ℕ → List ℕ
written m n r w k = slice_set m (r * n + w) k

-- the numbers from a place up to another are 0, and the others as before
pub record Wiped (m m' : List ℕ) (from to : ℕ) : Type 0 where
  pub inside : (k : ℕ) → from ≤ k → k < to → slice_index m' k ≡ 0
  pub outside : (k : ℕ) → (k < from) ⊎ (to ≤ k) → slice_index m' k ≡ slice_index m k

-- a row from a on, up to b
abbrev pub Between : ℕ → ℕ → ℕ → Type 0
Between a b r = (a ≤ r) × (r ≤ b)

-- no other rows than these differ
abbrev pub Only : (ℕ → Type 0) → ℕ → List ℕ → List ℕ → Type 0
Only R n m m' = (r : ℕ) → (R r → ⊥) → row_of m' n r ≡ row_of m n r

-- the number of a row
abbrev pub row_number : Row → ℕ
row_number Kind = 0
row_number First = 1
row_number Second = 2
row_number Bars = 3
row_number Goals = 4
row_number Lists = 5
row_number Fed = 6
row_number FedSecond = 7
row_number Start = 8
row_number FromFirst = 9
row_number FromSecond = 10
row_number Finish = 11
row_number Through = 12
row_number Marks = 13
row_number MarksSecond = 14
row_number Stack = 15
row_number StackSecond = 16
row_number Tried = 17
row_number TriedSecond = 18
row_number Ended = 19
row_number Spare = 20
row_number SpareSecond = 21
row_number SpareThird = 22
row_number SpareFourth = 23

-- as many wires as before, in the same memory, as long as before
pub record SameRows (r r' : Rows) : Type 0 where
  pub wires : r'.wires ≡ r.wires
  pub place : r'.memory.ghost_name ≡ r.memory.ghost_name
  pub long : length r'.memory.now ≡ length r.memory.now
