-- What a planning writes when no path is left.
use Rattle.std.specs.Prelude.{◌≡◌, ℕ, List, take}
use Rattle.routes.specs.Routes.{Ordered}
use Rattle.routes.specs.Residuals.{border}
use Rattle.routes.specs.Plans.{ones, Earliest}
use Rattle.rows.specs.Rows.{Room}
use Rattle.rows.specs.Held.{circuit_of, bars_of}
use Rattle.flows.specs.Kept.{Flows, routes_in}
use Rattle.flows.specs.Residual.{Feeds}
use Rattle.flows.specs.Found.{Goals, Missed, marks}
use Rattle.flows.specs.Listing.{Listing, count}

-- where the search finds no goal, the border has as many wires as there are routes
abbrev pub BorderIsAsMany : Type 0
BorderIsAsMany =
    (m : List ℕ) (n : ℕ) (feeds : ℕ → List ℕ) → Room n m → Ordered (circuit_of m n) → Flows n m → Feeds m n feeds → Goals m n → Missed m n feeds
    → count (border (marks m n)) n ≡ routes_in m n

-- and its wires, as they are listed, are the earliest plan
abbrev pub PlanIsEarliest : Type 0
PlanIsEarliest =
    (m : List ℕ) (n : ℕ) (feeds : ℕ → List ℕ) → Room n m → Ordered (circuit_of m n) → Flows n m → Feeds m n feeds → Goals m n → Missed m n feeds
    → (len : ℕ) (before out : List ℕ) → Listing (border (marks m n)) n len before out
    → Earliest (circuit_of m n) (bars_of m n) ones (take len out) × (len ≡ routes_in m n)
