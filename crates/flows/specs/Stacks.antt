-- Paths of places on a stack.
use Rattle.std.specs.Prelude.{◌≡◌, ℕ, zero, suc, ◌+◌, ◌-◌, ◌*◌, ◌/◌, ◌%◌, ◌<◌, ◌≤◌, Bool, true, false, cond, List, [], ◌∷◌, ◌==◌, ◌≢◌, slice_index}
use Rattle.circuits.specs.declared.making.Making.{Making}
use Rattle.routes.specs.Routes.{IsProduct, Wires, Ends}
use Rattle.routes.specs.Plans.{ones}
use Rattle.routes.specs.Flows.{Flow, value}
use Rattle.routes.specs.Residuals.{Place, entry, exit, Step}
use Rattle.routes.specs.Paths.{more_at, less_at, more_along, less_along, ended_at, Trail, Lacks}
use Rattle.routes.specs.Stored.{with_start, with_along, with_through}
use Rattle.rows.specs.Rows.{cell, Between, Only}
use Rattle.rows.specs.Held.{circuit_of, bars_of}
use Rattle.flows.specs.Kept.{flow_in, Flows, routes_in}

-- the entry of a wire, or its exit
abbrev pub side : Bool → ℕ → Place
side true w = entry w
side false w = exit w

-- an even number is an entry, an odd one an exit
abbrev pub place : ℕ → Place
place k = side (k % 2 == 0) (k / 2)

-- the number of a place
abbrev pub numbered : Place → ℕ
numbered (entry w) = 2 * w
numbered (exit w) = 2 * w + 1

-- the number at a height of the stack, which begins at row 15
abbrev pub stacked : List ℕ → ℕ → ℕ → ℕ
stacked m n i = slice_index m (15 * n + i)

-- what a step from one place to another changes
abbrev pub moved : Place → Place → Flow → Flow
moved (entry w) (entry v) y = y
moved (entry w) (exit v) y = cond (w == v) (with_through (more_at w y.through) y) (with_along (less_along v w y.along) y)
moved (exit v) (entry w) y = cond (v == w) (with_through (less_at w y.through) y) (with_along (more_along v w y.along) y)
moved (exit w) (exit v) y = y

-- the flow after the steps of a path below height i, from the top down
abbrev pub walked : (ℕ → ℕ) → ℕ → Flow → Flow
walked at_height zero y = y
walked at_height (suc i) y = walked at_height i (moved (place (at_height i)) (place (at_height (suc i))) y)

-- one unit more begins at w
abbrev pub begun_at : ℕ → Flow → Flow
begun_at w y = with_start (more_at w y.start) y

-- the flow with one unit more along a path of height h: it ends at the last wire, and begins at the first
abbrev pub sent_along : (ℕ → ℕ) → ℕ → Flow → Flow
sent_along at_height h x = begun_at (at_height 0 / 2) (walked at_height (h - 1) (ended_at (at_height (h - 1) / 2) x))

-- no number of the flow passes k
pub record Small (x : Flow) (k : ℕ) : Type 0 where
  pub starts : (w : ℕ) → x.start w ≤ k
  pub alongs : (v w : ℕ) → x.along v w ≤ k
  pub finishes : (w : ℕ) → x.finish w ≤ k
  pub throughs : (w : ℕ) → x.through w ≤ k

-- the numbers at heights below h are different places, from the entry of a product by steps to the exit of a wire where a route may end
pub record Path (c : List Making) (barred : Wires) (x : Flow) (n h : ℕ) (at_height : ℕ → ℕ) : Type 0 where
  pub some : 0 < h
  pub low : h ≤ 2 * n
  pub within : (i : ℕ) → i < h → at_height i < 2 * n
  pub apart : (i j : ℕ) → i < j → j < h → at_height i ≢ at_height j
  pub starts : (w : ℕ) × (place (at_height 0) ≡ entry w) × IsProduct c w
  pub steps : (i : ℕ) → suc i < h → Step c barred ones x (place (at_height i)) (place (at_height (suc i)))
  pub ends : (w : ℕ) × (place (at_height (h - 1)) ≡ exit w) × Ends c w

-- the places below a height, the last first
abbrev pub below : (ℕ → ℕ) → ℕ → List Place
below at_height zero = []
below at_height (suc i) = place (at_height i) ∷ below at_height i

-- the places of a path are a trail to the last of them
abbrev pub PathsAreTrails : Type 0
PathsAreTrails =
    (c : List Making) (barred : Wires) (x : Flow) (n h : ℕ) (at_height : ℕ → ℕ) → Path c barred x n h at_height
    → Trail c barred ones x (place (at_height (h - 1))) (below at_height (h - 1))

-- the unit sent along a path is lacking at height i, and the steps below can still be made; k units begin in all
pub record Pending (c : List Making) (barred : Wires) (n h : ℕ) (at_height : ℕ → ℕ) (k : ℕ) (y : Flow) (i : ℕ) : Type 0 where
  pub high : i < h
  pub low : h ≤ 2 * n
  pub within : (j : ℕ) → j < h → at_height j < 2 * n
  pub apart : (j l : ℕ) → j < l → l < h → at_height j ≢ at_height l
  pub lacks : Lacks c barred ones y (place (at_height i))
  pub steps : (j : ℕ) → j < i → Step c barred ones y (place (at_height j)) (place (at_height (suc j)))
  pub small : Small y (k + (h - i))
  pub begun : value c y ≡ k

-- a path of height h is on the stack
abbrev pub Stack : ℕ → List ℕ → ℕ → Type 0
Stack n m h = Path (circuit_of m n) (bars_of m n) (flow_in m n) n h (stacked m n)

-- from m on, only the flow has changed, by the steps from height i on, and the unit is lacking at height i
pub record Pushed (n h : ℕ) (m m' : List ℕ) (i : ℕ) : Type 0 where
  pub steps : walked (stacked m n) i (flow_in m' n) ≡ walked (stacked m n) (h - 1) (flow_in m n)
  pub pending : Pending (circuit_of m n) (bars_of m n) n h (stacked m n) (routes_in m n) (flow_in m' n) i
  pub rest : Only (Between 8 12) n m m'

-- the memory holds the flow with one unit more along the path on the stack, and no other row has changed
pub record Grown (n h : ℕ) (m m' : List ℕ) : Type 0 where
  pub flow : flow_in m' n ≡ sent_along (stacked m n) h (flow_in m n)
  pub flows : Flows n m'
  pub one_more : routes_in m' n ≡ routes_in m n + 1
  pub rest : Only (Between 8 12) n m m'

-- every number of the flow is 0, so that it has no unit, and no other row has changed
pub record Emptied (n : ℕ) (m m' : List ℕ) : Type 0 where
  pub zeros : (r : ℕ) → Between 8 12 r → (w : ℕ) → cell m' n r w ≡ 0
  pub flows : Flows n m'
  pub none : routes_in m' n ≡ 0
  pub rest : Only (Between 8 12) n m m'
