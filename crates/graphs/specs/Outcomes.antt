-- What a search over the two graphs decides. m is the memory before the search and m' the one after it; the circuit c of n wires is loaded.
use Rattle.std.specs.Prelude.{◌≡◌, ℕ, ◌*◌, true, List, map, length, take}
use Rattle.std.specs.List.{range_with_len, AllByRecursion}
use Rattle.circuits.specs.declared.making.Making.{Making}
use Rattle.routes.specs.Routes.{Ordered, Route}
use Rattle.routes.specs.Plans.{ones, Blocked}
use Rattle.routes.specs.Residuals.{Closed}
use Rattle.search.specs.Graphs.{Meaning}
use Rattle.search.specs.Rows.{stacked}
use Rattle.search.specs.Searches.{RowsOnly, Reached, Missed as NoneReached}
use Rattle.rows.specs.Held.{circuit_of, bars_of}
use Rattle.rows.specs.Fed.{Loaded}
use Rattle.flows.specs.Kept.{flow_in}
use Rattle.flows.specs.Stacks.{Stack}
use Rattle.flows.specs.Residual.{Feeds}
use Rattle.flows.specs.Found.{Goals, Found, Missed, marks}
use Rattle.graphs.specs.Fronts.{front_of, lists_of}
use Rattle.graphs.specs.Meanings.{residual_graph, barred_graph}

-- a search over the graph t has put a path of h places to a goal on the stack
pub record PathFound (t : Meaning) (m m' : List ℕ) (h : ℕ) : Type 0 where
  pub rows : RowsOnly t m m'
  pub reached : Reached (t.steps (take t.extent m)) (t.goal (take t.extent m)) (t.chosen (take t.extent m)) t.extent t.many m' h

-- a search over the graph t has marked what steps reach, and no goal is among it
pub record NoneFound (t : Meaning) (m m' : List ℕ) : Type 0 where
  pub rows : RowsOnly t m m'
  pub missed : NoneReached (t.steps (take t.extent m)) (t.goal (take t.extent m)) (t.chosen (take t.extent m)) t.extent t.many m'

-- the lists in front of a memory
abbrev pub lists_in : List ℕ → ℕ → ℕ → List ℕ
lists_in m n = lists_of n (front_of n m)

-- whatever the memory holds, the outcomes over the residual graph are those of the flow's steps
abbrev pub ResidualOutcomes : Type 0
ResidualOutcomes =
    (n : ℕ) (m m' : List ℕ)
    → ((h : ℕ) → PathFound (residual_graph n) m m' h → Found m' n (lists_in m' n) h)
    × (NoneFound (residual_graph n) m m' → Missed m' n (lists_in m' n))

-- in a loaded memory the lists and the flags are those of the circuit
abbrev pub LoadFeeds : Type 0
LoadFeeds =
    (c : List Making) (n : ℕ) (m : List ℕ) → Ordered c → length c ≡ n → Loaded c n m
    → Feeds m n (lists_in m n) × Goals m n

-- so a path is one to grow along, and where there is none the marks close
abbrev pub ResidualDecides : Type 0
ResidualDecides =
    (c : List Making) (n : ℕ) (m m' : List ℕ) → Ordered c → length c ≡ n → Loaded c n m
    → ((h : ℕ) → PathFound (residual_graph n) m m' h → Stack n m' h)
    × (NoneFound (residual_graph n) m m' → Closed (circuit_of m' n) (bars_of m' n) ones (flow_in m' n) (marks m' n))

-- the h places on the stack of a search over the barred graph
abbrev pub stack_list : ℕ → List ℕ → ℕ → List ℕ
stack_list n m h = map (stacked (13 * n) n m) (range_with_len 0 h)

-- a path over the barred graph is a route of barred wires, and where there is none no route has only barred wires
abbrev pub BarredDecides : Type 0
BarredDecides =
    (c : List Making) (n : ℕ) (m m' : List ℕ) → Ordered c → length c ≡ n → Loaded c n m
    → ((h : ℕ) → PathFound (barred_graph n) m m' h → Route c (stack_list n m' h) × AllByRecursion (λ w. bars_of m' n w ≡ true) (stack_list n m' h))
    × (NoneFound (barred_graph n) m m' → Blocked c (bars_of m' n) → ⊥)
