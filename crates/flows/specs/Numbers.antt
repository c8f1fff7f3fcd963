-- The numbers of units, noted for each wire so that a route is traced without counting again. Rows 15 to 19 hold them, which are free when
-- the search has ended.
use Rattle.std.specs.Prelude.{◌≡◌, ℕ, ◌+◌, ◌-◌, ◌<◌, ◌≤◌, ◌⊎◌, List}
use Rattle.circuits.specs.declared.making.Making.{Making}
use Rattle.routes.specs.Routes.{at}
use Rattle.routes.specs.Flows.{Flow}
use Rattle.routes.specs.Stored.{First, Second}
use Rattle.routes.specs.Sums.{sum_of, ranks}
use Rattle.routes.specs.Traces.{first_to}
use Rattle.rows.specs.Rows.{cell, written, Between, Only}
use Rattle.rows.specs.Held.{circuit_of}
use Rattle.flows.specs.Kept.{flow_in}
use Rattle.flows.specs.Units.{Ending}

-- of the wires below k: the number, as units leave an operand, of the first unit to the wire; and so far, of the next unit
pub record Numbers (c : List Making) (x : Flow) (n : ℕ) (m : List ℕ) (k : ℕ) : Type 0 where
  pub running : (v : ℕ) → v < n → cell m n 17 v ≡ first_to x v k
  pub firsts : (w v : ℕ) → w < k → First (at c w) v → cell m n 15 w ≡ first_to x v w
  pub seconds : (w v : ℕ) → w < k → Second (at c w) v → (First (at c w) v → ⊥) → cell m n 16 w ≡ first_to x v w

-- the units of the memory's flow are numbered
abbrev pub Numbered : ℕ → List ℕ → Type 0
Numbered n m = Numbers (circuit_of m n) (flow_in m n) n m n

-- from m on, only the rows of these numbers have changed, and the wires below k are numbered
pub record Numbering (n : ℕ) (m m' : List ℕ) (k : ℕ) : Type 0 where
  pub numbers : Numbers (circuit_of m n) (flow_in m n) n m' k
  pub rest : Only (Between 15 17) n m m'

-- the number of the next unit of v is noted in a row, and k units are counted
abbrev pub noted : List ℕ → ℕ → ℕ → ℕ → ℕ → ℕ → List ℕ
noted m n r v w k = written (written m n r w (cell m n 17 v)) n 17 v (cell m n 17 v + k)

-- of the wires below k: how many units end at lower wires; and of each unit that ends at a wire below k, the wire
pub record Endings (x : Flow) (n : ℕ) (m : List ℕ) (k : ℕ) : Type 0 where
  pub sums : (w : ℕ) → w < k → cell m n 19 w ≡ sum_of x.finish (ranks w)
  pub ends : (i : ℕ) → i < sum_of x.finish (ranks k) → Ending x k i (cell m n 18 i) (i - sum_of x.finish (ranks (cell m n 18 i)))

-- from m on, only the rows of endings have changed, and those of the wires below k are noted
pub record Ended (n : ℕ) (m m' : List ℕ) (k : ℕ) : Type 0 where
  pub endings : Endings (flow_in m n) n m' k
  pub rest : Only (Between 18 19) n m m'

-- the numbers of row 18 from a place up to another are k, the others as they were, and so are the other rows
pub record Marked (n : ℕ) (m m' : List ℕ) (from to k : ℕ) : Type 0 where
  pub inside : (i : ℕ) → from ≤ i → i < to → cell m' n 18 i ≡ k
  pub outside : (i : ℕ) → (i < from) ⊎ (to ≤ i) → cell m' n 18 i ≡ cell m n 18 i
  pub rest : Only (Between 18 18) n m m'

-- all that tracing reads
pub record Ready (n : ℕ) (m : List ℕ) : Type 0 where
  pub numbers : Numbered n m
  pub endings : Endings (flow_in m n) n m n

-- tracing is ready, and only rows 15 to 19 have changed
pub record Prepared (n : ℕ) (m m' : List ℕ) : Type 0 where
  pub ready : Ready n m'
  pub rest : Only (Between 15 19) n m m'
