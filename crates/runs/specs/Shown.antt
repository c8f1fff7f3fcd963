-- Calls that keep a flow and a search do what is told of routes.
use Rattle.std.specs.Prelude.{◌≡◌, ℕ, ◌<◌, true, List, [], ◌∷◌, length}
use Rattle.std.specs.List.{AllByRecursion}
use Rattle.circuits.specs.declared.making.Making.{Making}
use Rattle.routes.specs.Routes.{Ordered, Wires, Route}
use Rattle.routes.specs.Plans.{ones, Blocked}
use Rattle.routes.specs.Flows.{Flow, IsFlow, value}
use Rattle.routes.specs.Residuals.{Closed}
use Rattle.routes.specs.Traces.{Traces}
use Rattle.runs.specs.Events.{Event}
use Rattle.runs.specs.Told.{Told, opened, DoesTold}
use Rattle.runs.specs.Machine.{Stage, still_open, closed_by, blocked_by, tells, Standing, Begun, Does}

-- these are the routes of the flow, or the one of barred wires
abbrev pub Seen : List Making → Wires → Flow → Stage → List (List ℕ) → Type 0
Seen c bars x still_open rs = Traces x 0 rs × (length rs ≡ value c x) × (0 < value c x → Blocked c bars → ⊥)
Seen c bars x (closed_by mark) rs = Traces x 0 rs × (length rs ≡ value c x) × Closed c bars ones x mark
Seen c bars x (blocked_by r) rs = (rs ≡ r ∷ []) × (value c x ≡ 0) × Route c r × AllByRecursion (λ w. bars w ≡ true) r

-- what is kept shows these bars, this state and these routes
pub record Shows (c : List Making) (s : Standing) (t : Told) : Type 0 where
  pub is_flow : IsFlow c s.bars ones s.flow
  pub seen : Seen c s.bars s.flow s.stage t.routes
  pub bars_are : t.bars ≡ s.bars
  pub state_is : t.state ≡ tells s.stage

-- one that is begun shows an open planning without routes, and each call does what is told
abbrev pub FlowsDoWhatIsTold : Type 0
FlowsDoWhatIsTold =
    (c : List Making) → Ordered c
    → ((s : Standing) (bars : Wires) → Begun c bars s → Shows c s (opened bars))
    × ((s u : Standing) (t : Told) (e : Event) → Shows c s t → Does c s e u → (v : Told) × DoesTold c t e v × Shows c u v)
