-- Routes that force what a plan costs.
use Rattle.std.specs.Prelude.{◌≡◌, ℕ, ◌≤◌, true, false, ◌↔◌, List, [], ◌∷◌, length}
use Rattle.std.specs.List.{AllByRecursion}
use Rattle.circuits.specs.Growths.{Tables, Grows}
use Rattle.circuits.specs.Levels.{rules, has, IsClean}
use Rattle.circuits.specs.declared.making.Making.{Making}
use Rattle.routes.specs.Routes.{Ordered, Wires, Route}
use Rattle.routes.specs.Sums.{sum_of, one_if}
use Rattle.routes.specs.Plans.{wires_of, FreeOf, cost, Smallest, Cheapest}

-- how many of the rows pass a wire
abbrev pub passing : List (List ℕ) → ℕ → ℕ
passing rs w = sum_of (λ r. one_if (has w r)) rs

-- rows that are routes, of which at most its price pass an unbarred wire
abbrev pub Stand : List Making → Wires → (ℕ → ℕ) → List (List ℕ) → Type 0
Stand c barred price rs = AllByRecursion (Route c) rs × ((w : ℕ) → barred w ≡ false → passing rs w ≤ price w)

-- no two of the rows share an unbarred wire
abbrev pub Apart : Wires → List (List ℕ) → Type 0
Apart barred [] = Unit {0}
Apart barred (r ∷ rs) = AllByRecursion (λ s. (w : ℕ) → has w r ≡ true → has w s ≡ true → barred w ≡ true) rs × Apart barred rs

-- at price 1, routes stand just where no two share an unbarred wire
abbrev pub ApartIsOneEach : Type 0
ApartIsOneEach = (barred : Wires) (rs : List (List ℕ)) → Apart barred rs ↔ ((w : ℕ) → barred w ≡ false → passing rs w ≤ 1)

-- routes that stand are at most as many as a clean plan without barred wires costs
abbrev pub StandingRoutesBoundCost : Type 0
StandingRoutesBoundCost =
    (t : Tables) → Grows t → (c : List Making) → Ordered c → (barred : Wires) (price : ℕ → ℕ)
    → (rs : List (List ℕ)) → Stand c barred price rs
    → (plan : List ℕ) → IsClean c (rules t 2 1) plan → FreeOf barred (wires_of plan) → length rs ≤ cost price plan

-- routes with no unbarred wire shared are at most as many as the wires of a clean plan without barred wires
abbrev pub RoutesApartBoundPlans : Type 0
RoutesApartBoundPlans =
    (t : Tables) → Grows t → (c : List Making) → Ordered c → (barred : Wires)
    → (rs : List (List ℕ)) → AllByRecursion (Route c) rs → Apart barred rs
    → (plan : List ℕ) → IsClean c (rules t 2 1) plan → FreeOf barred (wires_of plan) → length rs ≤ length plan

-- as many routes as any number up to the cost of a cheapest plan can stand, and no more
abbrev pub RoutesStandUpToCost : Type 0
RoutesStandUpToCost =
    (c : List Making) → Ordered c → (barred : Wires) (price : ℕ → ℕ) (plan : List ℕ) → Cheapest c barred price plan
    → (k : ℕ) → ((rs : List (List ℕ)) × Stand c barred price rs × (length rs ≡ k)) ↔ (k ≤ cost price plan)

-- as many routes as any number up to the wires of a smallest plan are there with no unbarred wire shared, and no more
abbrev pub RoutesApartUpToSize : Type 0
RoutesApartUpToSize =
    (c : List Making) → Ordered c → (barred : Wires) (plan : List ℕ) → Smallest c barred plan
    → (k : ℕ) → ((rs : List (List ℕ)) × AllByRecursion (Route c) rs × Apart barred rs × (length rs ≡ k)) ↔ (k ≤ length plan)
