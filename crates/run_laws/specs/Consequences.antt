-- What the law of runs says of single calls and of two calls.
use Rattle.std.specs.Prelude.{◌≡◌, ℕ, suc, ◌≤◌, Bool, true, false, cond, not, ◌&&◌, ◌⊎◌, List, [], ◌∷◌, ◌++◌, map, length, take, replicate, Ok, Err, Result, ◌==◌, ◌≢◌}
use Rattle.std.specs.List.{AllByRecursion}
use Rattle.circuits.specs.Levels.{has}
use Rattle.circuits.specs.declared.answer.Refusal.{Refusal}
use Rattle.circuits.specs.declared.making.Making.{Making}
use Rattle.routes.specs.Routes.{Ordered, Wires, Route}
use Rattle.routes.specs.Plans.{Smallest}
use Rattle.runs.specs.Events.{Event, History, refused_by_12, room_of, barred, epoch, new_epoch}
use Rattle.runs.specs.Law.{faults, LawfulRun}
use Rattle.runs.specs.Told.{Told, RunTold}
use Rattle.runs.specs.declared.calls.Call.{Call}
use Rattle.runs.specs.declared.calls.Answer.{Answer}
use Rattle.runs.specs.declared.calls.State.{State}
use Rattle.runs.specs.declared.calls.Call.TheVariants as call
use Rattle.runs.specs.declared.calls.Answer.TheVariants as answer
use Rattle.runs.specs.declared.calls.State.TheVariants as state
use Rattle.runs.specs.declared.calls.Stepped.TheVariants as stepped

-- a bar or an unbar of the rank
abbrev pub of_rank : Call → ℕ → Bool
of_rank (call.Bar v) w = w == v
of_rank (call.Unbar v) w = w == v
of_rank call.Step w = false
of_rank (call.Plan n) w = false
of_rank (call.Route i n) w = false

-- a bar
abbrev pub is_bar : Call → Bool
is_bar (call.Bar v) = true
is_bar (call.Unbar v) = false
is_bar call.Step = false
is_bar (call.Plan n) = false
is_bar (call.Route i n) = false

-- the last bar or unbar of the rank was a bar, and not one refused by 12
abbrev pub last_was_a_bar : History → ℕ → Bool
last_was_a_bar [] w = false
last_was_a_bar (e ∷ h) w = cond (of_rank e.call w) (is_bar e.call && not (refused_by_12 e.answer)) (last_was_a_bar h w)

-- a wire is barred exactly if that is so
abbrev pub BarredByTheLast : Type 0
BarredByTheLast = (c : List Making) (h : History) → LawfulRun c h → (w : ℕ) → barred h w ≡ last_was_a_bar h w

-- the numbers of what each call is tested for
abbrev pub order : Call → List ℕ
order (call.Bar w) = 12 ∷ 15 ∷ []
order (call.Unbar w) = 12 ∷ 16 ∷ []
order call.Step = 17 ∷ []
order (call.Plan n) = 18 ∷ 19 ∷ 11 ∷ []
order (call.Route i n) = 18 ∷ 13 ∷ 11 ∷ []

-- each call is tested in this order
abbrev pub TestedInOrder : Type 0
TestedInOrder = (c : List Making) (bars : Wires) (s : State) (k : ℕ) (a : Call) → map (λ f. f.1) (faults c bars s k a) ≡ order a

-- f happened, and no bar or unbar has been obeyed after it
abbrev pub Since : Event → History → Type 0
Since f [] = ⊥
Since f (e ∷ h) = (f ≡ e) ⊎ ((e.answer ≢ Ok answer.Done) × Since f h)

-- route gave this row under this index
abbrev pub Gave : Event → ℕ → List ℕ → Type 0
Gave e i r = (n : ℕ) × (e.call ≡ call.Route i n) × (e.answer ≡ Ok (answer.Routed (length r))) × (take (length r) e.after ≡ r)

-- until a bar or unbar is obeyed, route gives the same route under the same index, and under others ones that share no unbarred wire with it;
-- when blocked, one of barred wires
abbrev pub RoutesStayApart : Type 0
RoutesStayApart =
    (c : List Making) (h : History) → LawfulRun c h
    → (e f : Event) (i j : ℕ) (r q : List ℕ) → Since e h → Since f h → Gave e i r → Gave f j q
    → Route c r
    × ((epoch h).state ≡ state.Blocked → AllByRecursion (λ w. barred h w ≡ true) r)
    × (i ≡ j → r ≡ q)
    × ((i ≢ j) → (w : ℕ) → has w r ≡ true → has w q ≡ true → barred h w ≡ true)

-- nothing that the law reads off a history tells whether a call that was refused was made, and the memory lent to it is as it was
abbrev pub RefusalsAlterNothing : Type 0
RefusalsAlterNothing =
    (c : List Making) (h : History) (e : Event) (r : Refusal) → LawfulRun c (e ∷ h) → e.answer ≡ Err r
    → (e.after ≡ e.before) × (barred (e ∷ h) ≡ barred h) × (epoch (e ∷ h) ≡ epoch h)

-- when closed, as many steps answered grown as each smallest plan has wires
abbrev pub ClosedAfterK : Type 0
ClosedAfterK =
    (c : List Making) (h : History) → LawfulRun c h → (epoch h).state ≡ state.Closed
    → (plan : List ℕ) → Smallest c (barred h) plan → (epoch h).grown ≡ length plan

-- from a new planning, or once a bar or unbar was obeyed, a smallest plan of k wires takes k grown steps and then closed
abbrev pub KGrownThenClosed : Type 0
KGrownThenClosed =
    (c : List Making) → Ordered c → (h : History) → epoch h ≡ new_epoch
    → (plan : List ℕ) → Smallest c (barred h) plan
    → (steps : History) → AllByRecursion (λ e. e.call ≡ call.Step) steps → LawfulRun c (steps ++ h)
    → (length steps ≤ length plan → map (λ e. e.answer) steps ≡ replicate (length steps) (Ok (answer.Stepped stepped.Grown)))
    × (length steps ≡ suc (length plan) → map (λ e. e.answer) steps ≡ Ok (answer.Stepped stepped.Closed) ∷ replicate (length plan) (Ok (answer.Stepped stepped.Grown)))

-- the law leaves a call one answer, and the memory one content, but for which routes are given
abbrev pub AnswersAreOne : Type 0
AnswersAreOne =
    (c : List Making) → Ordered c → (h : History) (a : Call) (m : List ℕ) (b d : Result Answer Refusal) (n o : List ℕ)
    → LawfulRun c (record { call = a; before = m; answer = b; after = n } ∷ h)
    → LawfulRun c (record { call = a; before = m; answer = d; after = o } ∷ h)
    → ((b ≡ d) × (n ≡ o))
    ⊎ ((i : ℕ) × (r : List ℕ) × (q : List ℕ) × (a ≡ call.Route i (length m)) × (b ≡ Ok (answer.Routed (length r))) × (d ≡ Ok (answer.Routed (length q))))

-- whatever was called, every call has an answer
abbrev pub RunsGoOn : Type 0
RunsGoOn =
    (c : List Making) → Ordered c → (h : History) (s : Told) → RunTold c h s → (a : Call) (m : List ℕ) → length m ≡ room_of a
    → (b : Result Answer Refusal) × (n : List ℕ) × (t : Told) × RunTold c (record { call = a; before = m; answer = b; after = n } ∷ h) t
