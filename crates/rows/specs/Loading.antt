-- How a circuit comes into the memory, part by part.
use Rattle.std.specs.Prelude.{◌≡◌, ℕ, ◌+◌, ◌*◌, ◌^◌, ◌<◌, ◌≤◌, ◌⊎◌, List, ◌++◌, length, Some, None, Option, ◌≢◌, slice_index}
use Rattle.circuits.specs.declared.making.Making.{Making}
use Rattle.routes.specs.Routes.{Takes}
use Rattle.routes.specs.Sums.{sum_of, ranks}
use Rattle.rows.specs.Rows.{cell, Between}
use Rattle.rows.specs.Held.{making}
use Rattle.rows.specs.Fed.{maybe_use, uses}

-- how the wire w is made that the memory holds
abbrev pub held_at : List ℕ → ℕ → ℕ → Making
held_at m n w = making (cell m n 0 w) (cell m n 1 w) (cell m n 2 w)

-- the wire w is made so now, and the others as before
pub record Put (n : ℕ) (m m' : List ℕ) (w : ℕ) (how : Making) : Type 0 where
  pub here : held_at m' n w ≡ how
  pub others : (u : ℕ) → (u ≢ w) → held_at m' n u ≡ held_at m n u

-- a list for each wire
abbrev pub Family : Type 0
Family = ℕ → List ℕ

-- with w added to the list of an operand that may be absent
abbrev pub with_use : Family → Option ℕ → ℕ → Family
with_use L o w v = L v ++ maybe_use w o v

-- these are the operands that a wire made so passes on
pub record Passed (how : Making) (first second : Option ℕ) : Type 0 where
  pub uses_are : (w v : ℕ) → uses how w v ≡ maybe_use w first v ++ maybe_use w second v
  pub takes : (a : ℕ) → (first ≡ Some a) ⊎ (second ≡ Some a) → Takes how a

-- row 5 has the lengths of the lists
abbrev pub Counted : ℕ → List ℕ → Family → Type 0
Counted n m L = (v : ℕ) → v < n → cell m n 5 v ≡ length (L v)

-- the operand is a wire, and one more can be counted for it
abbrev pub Countable : ℕ → List ℕ → Option ℕ → Type 0
Countable n m None = Unit {0}
Countable n m (Some a) = (a < n) × (cell m n 5 a + 1 < 2 ^ 32)

-- where the list of v begins, if each list has room for what A says
abbrev pub offset : Family → ℕ → ℕ
offset A v = sum_of (λ u. length (A u)) (ranks v)

-- rows 5 and 13 have, of the wires below k, where their lists begin, and row 5 the lengths of the others
pub record Spaced (n : ℕ) (m : List ℕ) (A : Family) (k : ℕ) : Type 0 where
  pub begun : (v : ℕ) → v < k → cell m n 5 v ≡ offset A v
  pub next : (v : ℕ) → v < k → cell m n 13 v ≡ offset A v
  pub left : (v : ℕ) → k ≤ v → v < n → cell m n 5 v ≡ length (A v)

-- the lists L lie in rows 6 and 7, and row 13 has where each goes on
pub record Filled (n : ℕ) (m : List ℕ) (A L : Family) : Type 0 where
  pub next : (v : ℕ) → v < n → cell m n 13 v ≡ offset A v + length (L v)
  pub wires : (v i : ℕ) → v < n → i < length (L v) → slice_index m (6 * n + (offset A v + i)) ≡ slice_index (L v) i

-- the operand is a wire, and its list goes on within rows 6 and 7
abbrev pub Placeable : ℕ → List ℕ → Option ℕ → Type 0
Placeable n m None = Unit {0}
Placeable n m (Some a) = (a < n) × (cell m n 13 a < 2 * n)

-- no list is longer than its room, nor would be with one more for the operand, and there is room for all in two rows
pub record FitsIn (n : ℕ) (A L : Family) (o : Option ℕ) : Type 0 where
  pub few : offset A n ≤ 2 * n
  pub within : (v : ℕ) → v < n → length (L v) ≤ length (A v)
  pub more : (a : ℕ) → o ≡ Some a → length (L a) + 1 ≤ length (A a)

-- the rows that the lists are made in
abbrev pub ListRow : ℕ → Type 0
ListRow r = Between 5 7 r ⊎ (r ≡ 13)

-- the rows that wires are added to the lists in
abbrev pub PlacedRow : ℕ → Type 0
PlacedRow r = Between 6 7 r ⊎ (r ≡ 13)
