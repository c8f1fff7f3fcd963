-- The units of a flow, by number.
use Rattle.std.specs.Prelude.{◌≡◌, ℕ, ◌+◌, ◌<◌, ◌≤◌, List, ◌∷◌, reverse, take, drop}
use Rattle.circuits.specs.declared.making.Making.{Making}
use Rattle.routes.specs.Sums.{sum_of, ranks}
use Rattle.routes.specs.Flows.{Flow}
use Rattle.routes.specs.Stored.{slots, slots_below}
use Rattle.routes.specs.Traces.{first_from, Leads, Traced}

-- of the units that come to a wire made so, number r is number e from v
pub record Slot (m : Making) (a b r v e : ℕ) : Type 0 where
  pub some : e < slots m a b v
  pub number : r ≡ slots_below m a b v + e

-- unit k at w is number e from v
pub record Gives (x : Flow) (w k v e : ℕ) : Type 0 where
  pub some : e < x.along v w
  pub number : k ≡ first_from x w v + e

-- unit i of all that end is number j at w
pub record Ending (x : Flow) (n i w j : ℕ) : Type 0 where
  pub within : w < n
  pub some : j < x.finish w
  pub number : i ≡ sum_of x.finish (ranks w) + j

-- the first wires of `out` are the last ones of the row of unit i, the last first, back to unit k at w; the rest is as in `before`
pub record Leading (x : Flow) (i n w k len : ℕ) (before out : List ℕ) : Type 0 where
  pub row : (ws : List ℕ) × (reverse (take len out) ≡ w ∷ ws) × Leads x i w k ws
  pub begun : 1 ≤ len
  pub some : k < x.through w
  pub high : len + w ≤ n
  pub rest : drop len out ≡ drop len before

-- the first wires of `out` are the row of unit i, the last first, and the rest is as in `before`
pub record TracedBack (x : Flow) (i n len : ℕ) (before out : List ℕ) : Type 0 where
  pub traced : Traced x i (reverse (take len out))
  pub short : len ≤ n
  pub rest : drop len out ≡ drop len before

-- the same, in order
pub record Told (x : Flow) (i n len : ℕ) (before out : List ℕ) : Type 0 where
  pub traced : Traced x i (take len out)
  pub short : len ≤ n
  pub rest : drop len out ≡ drop len before
