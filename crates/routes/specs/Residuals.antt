-- Residual steps: where one unit more can be sent, or one taken back.
use Rattle.std.specs.Prelude.{◌≡◌, ℕ, ◌+◌, ◌<◌, ◌≤◌, Bool, true, false, not, ◌&&◌, ◌⊎◌, ◌↔◌, List, length}
use Rattle.circuits.specs.Levels.{has}
use Rattle.circuits.specs.declared.making.Making.{Making}
use Rattle.routes.specs.Routes.{IsProduct, Passes, Ordered, Wires, Ends, Ahead}
use Rattle.routes.specs.Ranks.{Ascending}
use Rattle.routes.specs.Plans.{FreeOf, cost, Earliest}
use Rattle.routes.specs.Standing.{Stand}
use Rattle.routes.specs.Flows.{value, IsCut, capacity, Flow, IsFlow}

-- the two sides of a wire
pub data Place : Type 0 where
  entry : ℕ → Place
  exit : ℕ → Place

-- one more through a wire, one less, one more from a wire to the next, one less
pub data Step (c : List Making) (barred : Wires) (price : ℕ → ℕ) (x : Flow) : Place → Place → Type 0 where
  pass_one : {w : ℕ} → (barred w ≡ true) ⊎ (x.through w < price w) → Step c barred price x (entry w) (exit w)
  unpass_one : {w : ℕ} → 0 < x.through w → Step c barred price x (exit w) (entry w)
  send_on : {v w : ℕ} → Passes c w v → Step c barred price x (exit v) (entry w)
  take_back : {v w : ℕ} → 0 < x.along v w → Step c barred price x (entry w) (exit v)

-- what steps reach from the entries of products
pub data Reached (c : List Making) (barred : Wires) (price : ℕ → ℕ) (x : Flow) : Place → Type 0 where
  at_product : {w : ℕ} → IsProduct c w → Reached c barred price x (entry w)
  by_step : {a b : Place} → Reached c barred price x a → Step c barred price x a b → Reached c barred price x b

-- steps reach a goal, the exit of a wire at which a route may end
abbrev pub GoalReached : List Making → Wires → (ℕ → ℕ) → Flow → Type 0
GoalReached c barred price x = (w : ℕ) × Ends c w × Reached c barred price x (exit w)

-- the marks are what steps reach, and no goal is among them
pub record Closed (c : List Making) (barred : Wires) (price : ℕ → ℕ) (x : Flow) (mark : Place → Bool) : Type 0 where
  pub exact : (a : Place) → (mark a ≡ true) ↔ Reached c barred price x a
  pub ended : (w : ℕ) → Ends c w → mark (exit w) ≡ false

-- the wires whose entry is marked and whose exit is not
abbrev pub border : (Place → Bool) → Wires
border mark w = mark (entry w) && not (mark (exit w))

-- where no goal is reached, the border is a cut without barred wires, of exactly as much capacity as there are units
abbrev pub BorderIsFullCut : Type 0
BorderIsFullCut =
    (c : List Making) → Ordered c → (barred : Wires) (price : ℕ → ℕ) (x : Flow) → IsFlow c barred price x
    → (mark : Place → Bool) → Closed c barred price x mark
    → IsCut c (border mark) × FreeOf barred (border mark) × (capacity c price (border mark) ≡ value c x)

-- and the earliest one: what is ahead of it is ahead of every such cut
abbrev pub BorderIsEarliestCut : Type 0
BorderIsEarliestCut =
    (c : List Making) → Ordered c → (barred : Wires) (price : ℕ → ℕ) (x : Flow) → IsFlow c barred price x
    → (mark : Place → Bool) → Closed c barred price x mark
    → (q : Wires) → IsCut c q → FreeOf barred q → capacity c price q ≤ value c x
    → (w : ℕ) → Ahead c (border mark) w → Ahead c q w

-- its wires in ascending order are the earliest plan
abbrev pub BorderIsTheEarliest : Type 0
BorderIsTheEarliest =
    (c : List Making) → Ordered c → (barred : Wires) (price : ℕ → ℕ) (x : Flow) → IsFlow c barred price x
    → (mark : Place → Bool) → Closed c barred price x mark
    → (plan : List ℕ) → Ascending plan → ((w : ℕ) → has w plan ≡ border mark w)
    → Earliest c barred price plan × (cost price plan ≡ value c x)

-- one more route than there are units can stand exactly where steps reach a goal
abbrev pub OneMoreStandsWhereReached : Type 0
OneMoreStandsWhereReached =
    (c : List Making) → Ordered c → (barred : Wires) (price : ℕ → ℕ) (x : Flow) → IsFlow c barred price x
    → ((rs : List (List ℕ)) × Stand c barred price rs × (length rs ≡ value c x + 1)) ↔ GoalReached c barred price x
