-- The units of a flow as routes. The units that pass a wire are numbered twice in the same way: as they enter, those that begin at the wire
-- come first and then those from each wire before, by rank; as they leave, those that end at the wire come first and then those to each wire
-- after, by rank.
use Rattle.std.specs.Prelude.{◌≡◌, ℕ, suc, ◌+◌, ◌<◌, List, [], ◌∷◌}
use Rattle.circuits.specs.declared.making.Making.{Making}
use Rattle.routes.specs.Routes.{Ordered, Wires}
use Rattle.routes.specs.Sums.{sum_of, ranks}
use Rattle.routes.specs.Standing.{Stand}
use Rattle.routes.specs.Flows.{value, Flow, IsFlow}

-- the number, at w as units enter, of the first unit from v
abbrev pub first_from : Flow → ℕ → ℕ → ℕ
first_from x w v = x.start w + sum_of (λ u. x.along u w) (ranks v)

-- the number, at v as units leave, of the first unit to w
abbrev pub first_to : Flow → ℕ → ℕ → ℕ
first_to x v w = x.finish v + sum_of (λ u. x.along v u) (ranks w)

-- unit j at w goes on over the listed wires, and is unit i of all that end
pub data Leads (x : Flow) (i : ℕ) : ℕ → ℕ → List ℕ → Type 0 where
  ends_here : {w j : ℕ} → j < x.finish w → i ≡ sum_of x.finish (ranks w) + j → Leads x i w j []
  goes_to : {v j w k e : ℕ} {ws : List ℕ} → Leads x i w k ws → e < x.along v w → j ≡ first_to x v w + e → k ≡ first_from x w v + e
      → Leads x i v j (w ∷ ws)

-- the row is that of unit i
abbrev pub Traced : Flow → ℕ → List ℕ → Type 0
Traced x i [] = ⊥
Traced x i (w ∷ ws) = (j : ℕ) × (j < x.start w) × Leads x i w j ws

-- the rows are those of the units from i on, in turn
abbrev pub Traces : Flow → ℕ → List (List ℕ) → Type 0
Traces x i [] = Unit {0}
Traces x i (r ∷ rs) = Traced x i r × Traces x (suc i) rs

-- each unit has a row
abbrev pub UnitsHaveRows : Type 0
UnitsHaveRows =
    (c : List Making) → Ordered c → (barred : Wires) (price : ℕ → ℕ) (x : Flow) → IsFlow c barred price x
    → (i : ℕ) → i < value c x → (r : List ℕ) × Traced x i r

-- the rows of the units are routes that stand
abbrev pub TracesAreRoutes : Type 0
TracesAreRoutes =
    (c : List Making) → Ordered c → (barred : Wires) (price : ℕ → ℕ) (x : Flow) → IsFlow c barred price x
    → (rs : List (List ℕ)) → Traces x 0 rs → Stand c barred price rs

-- and only one
abbrev pub OneRowEach : Type 0
OneRowEach = (x : Flow) (i : ℕ) (r s : List ℕ) → Traced x i r → Traced x i s → r ≡ s
