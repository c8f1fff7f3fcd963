-- The numbers in front of a planning's memory over n wires: 13 rows, of the circuit, the bars, the lists of fed wires and the flow.
use Rattle.std.specs.Prelude.{◌≡◌, ℕ, ◌+◌, ◌-◌, ◌*◌, ◌<◌, min, List, map, length, take, slice_index}
use Rattle.std.specs.List.{range_with_len}
use Rattle.circuits.specs.declared.making.Making.{Making}
use Rattle.routes.specs.Routes.{Ordered}
use Rattle.rows.specs.Rows.{row_of, cell}
use Rattle.rows.specs.Fed.{fed, Loaded}

-- the numbers in front
abbrev pub front_of : ℕ → List ℕ → List ℕ
front_of n m = take (13 * n) m

-- where the list of v begins
abbrev pub list_begin : ℕ → List ℕ → ℕ → ℕ
list_begin n f v = cell f n 5 v

-- where it ends: where the list of the next wire begins, and nowhere past the two rows of lists
abbrev pub list_end : ℕ → List ℕ → ℕ → ℕ
list_end n f v = min (cell f n 5 (v + 1)) (2 * n)

-- the list of v, whatever numbers f are in front; the last wire has none
unfoldable pub lists_of : ℕ → List ℕ → ℕ → List ℕ
lists_of n f v = map (λ i. slice_index f (6 * n + (list_begin n f v + i))) (range_with_len 0 (list_end n f v - list_begin n f v))

-- the rows in front are rows of the memory
abbrev pub RowsInFront : Type 0
RowsInFront = (n : ℕ) (m : List ℕ) (r : ℕ) → r < 13 → row_of (front_of n m) n r ≡ row_of m n r

-- in a loaded memory each list has the wires that its wire feeds
abbrev pub ListsAreFed : Type 0
ListsAreFed =
    (c : List Making) (n : ℕ) (m : List ℕ) → Ordered c → length c ≡ n → Loaded c n m
    → (v : ℕ) → lists_of n (front_of n m) v ≡ fed c v

-- a memory stays loaded where its front stays
abbrev pub LoadedByFront : Type 0
LoadedByFront =
    (c : List Making) (n : ℕ) (m m' : List ℕ) → length c ≡ n → front_of n m' ≡ front_of n m → Loaded c n m → Loaded c n m'
