-- What each call does to a planning, in terms of its bars, its state and the routes that it has. The routes are free but for what is said here.
use Rattle.std.specs.Prelude.{◌≡◌, ℕ, ◌+◌, ◌≤◌, true, false, List, [], ◌∷◌, length, Some, None, Ok, Option, Result}
use Rattle.std.specs.List.{AllByRecursion}
use Rattle.circuits.specs.Answers.{first_fault}
use Rattle.circuits.specs.declared.answer.Refusal.{Refusal}
use Rattle.circuits.specs.declared.making.Making.{Making}
use Rattle.routes.specs.Routes.{Ordered, Wires, Route}
use Rattle.routes.specs.Standing.{Apart}
use Rattle.routes.specs.Plans.{EarliestSmallest, Blocked}
use Rattle.runs.specs.Events.{Event, History, room_of, set_or_lifted}
use Rattle.runs.specs.Law.{faults, Wrote, RefusedBy, IsAt, LawfulRun}
use Rattle.runs.specs.declared.calls.Call.{Call}
use Rattle.runs.specs.declared.calls.Answer.{Answer}
use Rattle.runs.specs.declared.calls.State.{State}
use Rattle.runs.specs.declared.calls.Stepped.{Stepped}
use Rattle.runs.specs.declared.calls.Call.TheVariants as call
use Rattle.runs.specs.declared.calls.Answer.TheVariants as answer
use Rattle.runs.specs.declared.calls.State.TheVariants as state
use Rattle.runs.specs.declared.calls.Stepped.TheVariants as stepped

-- what a planning has: its bars, its state and its routes
pub record Told : Type 0 where
  pub bars : Wires
  pub state : State
  -- when blocked, one of barred wires, which is not counted
  pub routes : List (List ℕ)

-- how many routes there are
abbrev pub counted : State → List (List ℕ) → ℕ
counted state.Open rs = length rs
counted state.Closed rs = length rs
counted state.Blocked rs = 0

-- open, with these bars and no routes
abbrev pub opened : Wires → Told
opened bars = record { bars = bars; state = state.Open; routes = [] }

-- rows that are routes, of which no two share an unbarred wire
abbrev pub StandApart : List Making → Wires → List (List ℕ) → Type 0
StandApart c bars rs = AllByRecursion (Route c) rs × Apart bars rs

-- a step: one route more, or none more can stand, or one of barred wires
abbrev pub StepTold : List Making → Told → Stepped → Told → Type 0
StepTold c s stepped.Grown t =
    (Blocked c s.bars → ⊥)
    × ((rs : List (List ℕ)) × StandApart c s.bars rs × (length rs ≡ length s.routes + 1) × (t ≡ record { bars = s.bars; state = state.Open; routes = rs }))
StepTold c s stepped.Closed t =
    (Blocked c s.bars → ⊥)
    × ((rs : List (List ℕ)) → StandApart c s.bars rs → length rs ≤ length s.routes)
    × (t ≡ record { bars = s.bars; state = state.Closed; routes = s.routes })
StepTold c s stepped.Blocked t =
    (r : List ℕ) × Route c r × AllByRecursion (λ w. s.bars w ≡ true) r × (t ≡ record { bars = s.bars; state = state.Blocked; routes = r ∷ [] })

-- a call that is obeyed
abbrev pub ObeysTold : List Making → Told → Call → List ℕ → Result Answer Refusal → List ℕ → Told → Type 0
ObeysTold c s (call.Bar w) before a after t = (a ≡ Ok answer.Done) × (after ≡ before) × (t ≡ opened (set_or_lifted (call.Bar w) s.bars))
ObeysTold c s (call.Unbar w) before a after t = (a ≡ Ok answer.Done) × (after ≡ before) × (t ≡ opened (set_or_lifted (call.Unbar w) s.bars))
ObeysTold c s call.Step before a after t = (g : Stepped) × (a ≡ Ok (answer.Stepped g)) × StepTold c s g t × (after ≡ before)
ObeysTold c s (call.Plan n) before a after t =
    (plan : List ℕ) × (a ≡ Ok (answer.Planned (length plan))) × Wrote plan before after × EarliestSmallest c s.bars plan × (t ≡ s)
ObeysTold c s (call.Route i n) before a after t =
    (r : List ℕ) × (a ≡ Ok (answer.Routed (length r))) × Wrote r before after × IsAt s.routes (i, r) × (t ≡ s)

-- a call, by the first fault that is found: one that is refused leaves all as it was
abbrev pub DidTold : Option ℕ → List Making → Told → Event → Told → Type 0
DidTold (Some n) c s e t = RefusedBy n e × (t ≡ s)
DidTold None c s e t = ObeysTold c s e.call e.before e.answer e.after t

-- one call
abbrev pub DoesTold : List Making → Told → Event → Told → Type 0
DoesTold c s e t =
    (length e.before ≡ room_of e.call)
    × DidTold (first_fault (faults c s.bars s.state (counted s.state s.routes) e.call)) c s e t

-- a new planning, and then one call after another
pub data RunTold (c : List Making) : History → Told → Type 0 where
  new_told : RunTold c [] (opened (λ w. false))
  then_told : {h : History} {s t : Told} {e : Event} → RunTold c h s → DoesTold c s e t → RunTold c (e ∷ h) t

-- a run of calls that do what is told is lawful
abbrev pub ToldRunsAreLawful : Type 0
ToldRunsAreLawful = (c : List Making) → Ordered c → (h : History) (t : Told) → RunTold c h t → LawfulRun c h
