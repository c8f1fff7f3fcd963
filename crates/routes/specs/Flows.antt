-- Flows: how many units begin at a wire, pass from one wire to the next, and end at a wire.
use Rattle.std.specs.Prelude.{◌≡◌, ℕ, ◌+◌, ◌<◌, ◌≤◌, false, cond, List, length}
use Rattle.std.specs.List.{AllByRecursion}
use Rattle.circuits.specs.declared.making.Making.{Making}
use Rattle.routes.specs.Routes.{IsProduct, Passes, Ordered, Wires, Ends, Route, Hits}
use Rattle.routes.specs.Sums.{sum_of, ranks}
use Rattle.routes.specs.Ranks.{Ascending}
use Rattle.routes.specs.Plans.{FreeOf, Blocked, wires_of, cost}
use Rattle.routes.specs.Standing.{Stand}

-- numbers of units
pub record Flow : Type 0 where
  -- units that begin at a wire
  pub start : ℕ → ℕ
  -- units that go on from the first wire to the second
  pub along : ℕ → ℕ → ℕ
  -- units that end at a wire
  pub finish : ℕ → ℕ
  -- units that pass a wire
  pub through : ℕ → ℕ

-- a sum over the wires of a circuit
abbrev pub over : List Making → (ℕ → ℕ) → ℕ
over c f = sum_of f (ranks (length c))

-- units begin at products, go on as in a route and end where a route may; what enters a wire leaves it; at most its price passes an unbarred wire
pub record IsFlow (c : List Making) (barred : Wires) (price : ℕ → ℕ) (x : Flow) : Type 0 where
  pub from_products : (w : ℕ) → 0 < x.start w → IsProduct c w
  pub passed_on : (v w : ℕ) → 0 < x.along v w → Passes c w v
  pub to_products : (w : ℕ) → 0 < x.finish w → Ends c w
  pub enters : (w : ℕ) → x.start w + over c (λ v. x.along v w) ≡ x.through w
  pub leaves : (v : ℕ) → over c (λ w. x.along v w) + x.finish v ≡ x.through v
  pub fits : (w : ℕ) → barred w ≡ false → x.through w ≤ price w

-- how many units there are
abbrev pub value : List Making → Flow → ℕ
value c x = over c (λ w. x.start w)

-- the set has a wire of every route
abbrev pub IsCut : List Making → Wires → Type 0
IsCut c p = (r : List ℕ) → Route c r → Hits p r

-- how many units can pass the wires of a set
abbrev pub capacity : List Making → (ℕ → ℕ) → Wires → ℕ
capacity c price p = over c (λ w. cond (p w) (price w) 0)

-- what an ascending plan costs is the capacity of its wires
abbrev pub CostIsCapacity : Type 0
CostIsCapacity =
    (c : List Making) (price : ℕ → ℕ) (plan : List ℕ) → Ascending plan → AllByRecursion (λ w. w < length c) plan
    → capacity c price (wires_of plan) ≡ cost price plan

-- a flow has no more units than can pass a cut without barred wires
abbrev pub FlowsBoundCuts : Type 0
FlowsBoundCuts =
    (c : List Making) → Ordered c → (barred : Wires) (price : ℕ → ℕ) (x : Flow) → IsFlow c barred price x
    → (q : Wires) → IsCut c q → FreeOf barred q → value c x ≤ capacity c price q

-- a flow of k units splits into k routes, of which at most its price pass an unbarred wire
abbrev pub FlowsSplitIntoRoutes : Type 0
FlowsSplitIntoRoutes =
    (c : List Making) → Ordered c → (barred : Wires) (price : ℕ → ℕ) (x : Flow) → IsFlow c barred price x
    → (rs : List (List ℕ)) × Stand c barred price rs × (length rs ≡ value c x)

-- no more units pass a wire than there are; and unless blocked there are no more than all prices together
abbrev pub FlowsAreSmall : Type 0
FlowsAreSmall =
    (c : List Making) → Ordered c → (barred : Wires) (price : ℕ → ℕ) (x : Flow) → IsFlow c barred price x
    → ((w : ℕ) → x.through w ≤ value c x) × ((Blocked c barred → ⊥) → value c x ≤ over c price)
