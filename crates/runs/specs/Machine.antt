-- What each call does to a planning that keeps a flow and what its last search marked.
use Rattle.std.specs.Prelude.{◌≡◌, ℕ, ◌+◌, Bool, true, List, length, Some, None, Ok, Option, Result}
use Rattle.std.specs.List.{AllByRecursion}
use Rattle.circuits.specs.Answers.{first_fault}
use Rattle.circuits.specs.Levels.{has}
use Rattle.circuits.specs.declared.answer.Refusal.{Refusal}
use Rattle.circuits.specs.declared.making.Making.{Making}
use Rattle.routes.specs.Routes.{Wires, Route}
use Rattle.routes.specs.Ranks.{Ascending}
use Rattle.routes.specs.Plans.{ones, Blocked}
use Rattle.routes.specs.Flows.{Flow, IsFlow, value}
use Rattle.routes.specs.Residuals.{Place, border, Closed}
use Rattle.routes.specs.Traces.{Traced}
use Rattle.runs.specs.Events.{Event, room_of, set_or_lifted}
use Rattle.runs.specs.Law.{faults, Wrote, RefusedBy}
use Rattle.runs.specs.declared.calls.Call.{Call}
use Rattle.runs.specs.declared.calls.Answer.{Answer}
use Rattle.runs.specs.declared.calls.State.{State}
use Rattle.runs.specs.declared.calls.Stepped.{Stepped}
use Rattle.runs.specs.declared.calls.Call.TheVariants as call
use Rattle.runs.specs.declared.calls.Answer.TheVariants as answer
use Rattle.runs.specs.declared.calls.State.TheVariants as state
use Rattle.runs.specs.declared.calls.Stepped.TheVariants as stepped

-- open; closed, with what the last search marked; or blocked, with a route of barred wires
pub data Stage : Type 0 where
  still_open : Stage
  closed_by : (Place → Bool) → Stage
  blocked_by : List ℕ → Stage

-- the state of a stage
abbrev pub tells : Stage → State
tells still_open = state.Open
tells (closed_by mark) = state.Closed
tells (blocked_by r) = state.Blocked

-- what is kept: the bars, the flow and the stage
pub record Standing : Type 0 where
  pub bars : Wires
  pub flow : Flow
  pub stage : Stage

-- open with no routes
pub record Begun (c : List Making) (bars : Wires) (s : Standing) : Type 0 where
  pub bars_are : s.bars ≡ bars
  pub is_flow : IsFlow c s.bars ones s.flow
  pub no_routes : value c s.flow ≡ 0
  pub open_now : s.stage ≡ still_open

-- one route more, none of the bars changed
pub record Grows (c : List Making) (s t : Standing) : Type 0 where
  pub not_blocked : Blocked c s.bars → ⊥
  pub bars_are : t.bars ≡ s.bars
  pub is_flow : IsFlow c t.bars ones t.flow
  pub one_more_route : value c t.flow ≡ value c s.flow + 1
  pub open_now : t.stage ≡ still_open

-- the search found no way to the end of a route
pub record Closes (c : List Making) (s t : Standing) : Type 0 where
  pub mark : Place → Bool
  pub closed : Closed c s.bars ones s.flow mark
  pub now_is : t ≡ record { bars = s.bars; flow = s.flow; stage = closed_by mark }

-- a route of barred wires was found
pub record Blocks (c : List Making) (s t : Standing) : Type 0 where
  pub row : List ℕ
  pub route : Route c row
  pub all_barred : AllByRecursion (λ w. s.bars w ≡ true) row
  pub now_is : t ≡ record { bars = s.bars; flow = s.flow; stage = blocked_by row }

-- a step, by what it answers
abbrev pub StepsTo : List Making → Standing → Stepped → Standing → Type 0
StepsTo c s stepped.Grown t = Grows c s t
StepsTo c s stepped.Closed t = Closes c s t
StepsTo c s stepped.Blocked t = Blocks c s t

-- the list is that of the wires that the search entered and did not leave
abbrev pub Borders : Stage → List ℕ → Type 0
Borders still_open plan = ⊥
Borders (closed_by mark) plan = Ascending plan × ((w : ℕ) → has w plan ≡ border mark w)
Borders (blocked_by r) plan = ⊥

-- the row is that of unit i of the flow, or the barred one
abbrev pub RowsAt : Flow → Stage → ℕ → List ℕ → Type 0
RowsAt x still_open i r = ⊥
RowsAt x (closed_by mark) i r = Traced x i r
RowsAt x (blocked_by row) i r = r ≡ row

-- a call that is obeyed
abbrev pub Obeys : List Making → Standing → Call → List ℕ → Result Answer Refusal → List ℕ → Standing → Type 0
Obeys c s (call.Bar w) before a after t = (a ≡ Ok answer.Done) × (after ≡ before) × Begun c (set_or_lifted (call.Bar w) s.bars) t
Obeys c s (call.Unbar w) before a after t = (a ≡ Ok answer.Done) × (after ≡ before) × Begun c (set_or_lifted (call.Unbar w) s.bars) t
Obeys c s call.Step before a after t = (g : Stepped) × (a ≡ Ok (answer.Stepped g)) × StepsTo c s g t × (after ≡ before)
Obeys c s (call.Plan n) before a after t =
    (plan : List ℕ) × (a ≡ Ok (answer.Planned (length plan))) × Wrote plan before after × Borders s.stage plan × (t ≡ s)
Obeys c s (call.Route i n) before a after t =
    (r : List ℕ) × (a ≡ Ok (answer.Routed (length r))) × Wrote r before after × RowsAt s.flow s.stage i r × (t ≡ s)

-- a call, by the first fault that is found
abbrev pub Did : Option ℕ → List Making → Standing → Event → Standing → Type 0
Did (Some n) c s e t = RefusedBy n e × (t ≡ s)
Did None c s e t = Obeys c s e.call e.before e.answer e.after t

-- one call
abbrev pub Does : List Making → Standing → Event → Standing → Type 0
Does c s e t =
    (length e.before ≡ room_of e.call)
    × Did (first_fault (faults c s.bars (tells s.stage) (value c s.flow) e.call)) c s e t
