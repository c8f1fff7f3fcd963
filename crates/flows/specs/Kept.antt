-- The flow that a memory holds.
use Rattle.std.specs.Prelude.{◌≡◌, ℕ, List}
use Rattle.routes.specs.Plans.{ones}
use Rattle.routes.specs.Flows.{Flow, IsFlow, value}
use Rattle.routes.specs.Stored.{Store, flow_of}
use Rattle.rows.specs.declared.rows.Rows.{Rows}
use Rattle.rows.specs.Rows.{row_of, Between, Only}
use Rattle.rows.specs.Held.{circuit_of, bars_of}

-- units that begin, that come from the first operand, from the second, that end, and that pass
abbrev pub store_of : List ℕ → ℕ → Store
store_of m n =
    record {
      starts = row_of m n 8;
      firsts = row_of m n 9;
      seconds = row_of m n 10;
      finishes = row_of m n 11;
      throughs = row_of m n 12;
    }

-- the flow in rows 8 to 12
unfoldable pub flow_in : List ℕ → ℕ → Flow
flow_in m n = flow_of (circuit_of m n) (store_of m n)

-- the memory holds a flow, of which at most one unit passes an unbarred wire
abbrev pub Flows : ℕ → List ℕ → Type 0
Flows n m = IsFlow (circuit_of m n) (bars_of m n) ones (flow_in m n)

-- how many units there are
abbrev pub routes_in : List ℕ → ℕ → ℕ
routes_in m n = value (circuit_of m n) (flow_in m n)

-- of rows: the flow, and how many units there are
abbrev pub flow : Rows → Flow
flow r = flow_in r.memory.now r.wires

abbrev pub routes : Rows → ℕ
routes r = routes_in r.memory.now r.wires

-- the flow alone has changed, to y
pub record Changed (n : ℕ) (m : List ℕ) (y : Flow) (m' : List ℕ) : Type 0 where
  pub flow : flow_in m' n ≡ y
  pub rest : Only (Between 8 12) n m m'
