-- What happens on a planning, and what is read off it.
use Rattle.std.specs.Prelude.{ℕ, suc, Bool, false, cond, not, ◌&&◌, ◌||◌, List, [], ◌∷◌, take, Ok, Err, Result, ◌==◌}
use Rattle.circuits.specs.Answers.{number_of}
use Rattle.circuits.specs.declared.answer.Refusal.{Refusal}
use Rattle.routes.specs.Routes.{Wires}
use Rattle.runs.specs.declared.calls.Call.{Call}
use Rattle.runs.specs.declared.calls.Answer.{Answer}
use Rattle.runs.specs.declared.calls.State.{State}
use Rattle.runs.specs.declared.calls.Call.TheVariants as call
use Rattle.runs.specs.declared.calls.Answer.TheVariants as answer
use Rattle.runs.specs.declared.calls.Stepped.TheVariants as stepped
use Rattle.runs.specs.declared.calls.State.TheVariants as state

-- a call, the memory lent to it as it was before, the answer or the refusal, and that memory after
pub record Event : Type 0 where
  pub call : Call
  pub before : List ℕ
  pub answer : Result Answer Refusal
  pub after : List ℕ

-- all that has happened on a planning, the newest first
abbrev pub History : Type 0
History = List Event

-- how many numbers a call is lent
abbrev pub room_of : Call → ℕ
room_of (call.Bar w) = 0
room_of (call.Unbar w) = 0
room_of call.Step = 0
room_of (call.Plan n) = n
room_of (call.Route i n) = n

-- the call was refused by 12: its rank is not that of a produced wire
abbrev pub refused_by_12 : Result Answer Refusal → Bool
refused_by_12 (Ok a) = false
refused_by_12 (Err r) = number_of r == 12

-- the bars with that of a bar's or unbar's rank set or lifted
abbrev pub set_or_lifted : Call → Wires → Wires
set_or_lifted (call.Bar w) bars v = v == w || bars v
set_or_lifted (call.Unbar w) bars v = not (v == w) && bars v
set_or_lifted call.Step bars v = bars v
set_or_lifted (call.Plan n) bars v = bars v
set_or_lifted (call.Route i n) bars v = bars v

-- which wires are barred: the last bar or unbar of the rank, those refused by 12 left out, was a bar
abbrev pub barred : History → Wires
barred [] = λ v. false
barred (e ∷ h) = cond (refused_by_12 e.answer) (barred h) (set_or_lifted e.call (barred h))

-- an index, and the route that was given under it
abbrev pub Given : Type 0
Given = ℕ × List ℕ

-- what has come of the calls since the last bar or unbar that was obeyed: the state, how many steps answered grown, and the routes that were given
pub record Epoch : Type 0 where
  pub state : State
  pub grown : ℕ
  pub given : List Given

-- open, with nothing grown and nothing given
abbrev pub new_epoch : Epoch
new_epoch = record { state = state.Open; grown = 0; given = [] }

-- the index that a call takes
abbrev pub index : Call → ℕ
index (call.Bar w) = 0
index (call.Unbar w) = 0
index call.Step = 0
index (call.Plan n) = 0
index (call.Route i n) = i

-- the epoch after an answer, by the index of its call and the memory after it
abbrev pub after_answer : ℕ → List ℕ → Result Answer Refusal → Epoch → Epoch
after_answer i after (Ok answer.Done) p = new_epoch
after_answer i after (Ok (answer.Stepped stepped.Grown)) p = record { state = p.state; grown = suc p.grown; given = p.given }
after_answer i after (Ok (answer.Stepped stepped.Closed)) p = record { state = state.Closed; grown = p.grown; given = p.given }
after_answer i after (Ok (answer.Stepped stepped.Blocked)) p = record { state = state.Blocked; grown = p.grown; given = p.given }
after_answer i after (Ok (answer.Planned k)) p = p
after_answer i after (Ok (answer.Routed n)) p = record { state = p.state; grown = p.grown; given = (i, take n after) ∷ p.given }
after_answer i after (Err r) p = p

-- the epoch of a history
abbrev pub epoch : History → Epoch
epoch [] = new_epoch
epoch (e ∷ h) = after_answer (index e.call) e.after e.answer (epoch h)
