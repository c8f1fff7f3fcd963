-- What a planning keeps, and that it can be called.
use Rattle.std.specs.Prelude.{◌≡◌, ℕ, ◌*◌, ◌<◌, ◌≤◌, false, List, [], take, drop, Result}
use Rattle.circuits.specs.declared.answer.Refusal.{Refusal}
use Rattle.circuits.specs.declared.making.Making.{Making}
use Rattle.routes.specs.Routes.{Ordered}
use Rattle.routes.specs.Plans.{Blocked}
use Rattle.routes.specs.Residuals.{border}
use Rattle.rows.specs.Rows.{Room}
use Rattle.rows.specs.Held.{circuit_of, bars_of}
use Rattle.rows.specs.Fed.{Loaded}
use Rattle.flows.specs.Kept.{flow_in, Flows, routes_in}
use Rattle.flows.specs.Found.{marks}
use Rattle.flows.specs.Listing.{count}
use Rattle.flows.specs.Numbers as numbers
use Rattle.runs.specs.Events.{Event}
use Rattle.runs.specs.Shown.{Shows}
use Rattle.runs.specs.Told.{Told, opened}
use Rattle.runs.specs.Machine.{Stage, still_open, closed_by, blocked_by, Standing, Does}
use Rattle.runs.specs.declared.calls.Call.{Call}
use Rattle.runs.specs.declared.calls.Answer.{Answer}
use Rattle.runs.specs.declared.calls.State.{State}
use Rattle.runs.specs.declared.calls.State.TheVariants as state
use Rattle.plannings.specs.declared.kept.Kept.{Kept}
use Rattle.plannings.specs.declared.kept.Phase.{Phase}
use Rattle.plannings.specs.declared.kept.Phase.TheVariants as phase

-- what is told of each phase
abbrev pub state_of : Phase → State
state_of (phase.Open next) = state.Open
state_of phase.Closed = state.Closed
state_of (phase.Blocked h) = state.Blocked

-- open, with so many bars and no routes
abbrev pub opened_kept : ℕ → Kept
opened_kept b = record { phase = phase.Open 0; routes = 0; bars = b }

-- the stage of a phase: closed by the marks of the last search, or blocked by the first h wires of row 14
abbrev pub stage_of : List ℕ → ℕ → Phase → Stage
stage_of m n (phase.Open next) = still_open
stage_of m n phase.Closed = closed_by (marks m n)
stage_of m n (phase.Blocked h) = blocked_by (take h (drop (14 * n) m))

-- the bars, the flow and the stage that are kept
abbrev pub standing_of : List ℕ → ℕ → Kept → Standing
standing_of m n q = record { bars = bars_of m n; flow = flow_in m n; stage = stage_of m n q.phase }

-- what is ready in each phase. Open: with a route, no route has only barred wires. Closed: the border has as many wires as there are routes,
-- and routes can be traced. Blocked: there is no route, and the barred row is no longer than there are wires.
abbrev pub Staged : Phase → ℕ → List ℕ → ℕ → Type 0
Staged (phase.Open next) n m k = 0 < k → Blocked (circuit_of m n) (bars_of m n) → ⊥
Staged phase.Closed n m k = (count (border (marks m n)) n ≡ k) × numbers.Ready n m
Staged (phase.Blocked h) n m k = (k ≡ 0) × (h ≤ n)

-- the memory holds a circuit, a flow of as many routes as are kept, and as many bars, and is ready for its phase
pub record Ready (n : ℕ) (m : List ℕ) (q : Kept) : Type 0 where
  pub room : Room n m
  pub ordered : Ordered (circuit_of m n)
  pub loaded : Loaded (circuit_of m n) n m
  pub flows : Flows n m
  pub routes : routes_in m n ≡ q.routes
  pub bars : count (bars_of m n) n ≡ q.bars
  pub staged : Staged q.phase n m q.routes

-- a call with the room that is lent to it, before and after
abbrev pub lent : Call → List ℕ → Result Answer Refusal → List ℕ → Event
lent a before b after = record { call = a; before = before; answer = b; after = after }

-- a call that is lent nothing
abbrev pub bare : Call → Result Answer Refusal → Event
bare a b = record { call = a; before = []; answer = b; after = [] }

-- a call does what is asked, and leaves the same circuit and a planning that is ready
pub record Turned (n : ℕ) (m : List ℕ) (q : Kept) (e : Event) (m' : List ℕ) (q' : Kept) : Type 0 where
  pub same : circuit_of m' n ≡ circuit_of m n
  pub does : Does (circuit_of m n) (standing_of m n q) e (standing_of m' n q')
  pub ready : Ready n m' q'

-- what it tells holds of the bars, the state and the routes that it shows
abbrev pub Tells : ℕ → List ℕ → Kept → (Told → Type 0) → Type 0
Tells n m q P = (t : Told) → Shows (circuit_of m n) (standing_of m n q) t → P t

-- a new planning of the circuit c: open, with no bars and no routes
pub record New (c : List Making) (n : ℕ) (m : List ℕ) (q : Kept) : Type 0 where
  pub circuit : circuit_of m n ≡ c
  pub shows : Shows (circuit_of m n) (standing_of m n q) (opened (λ w. false))
