-- The calls of a planning as events, and runs of them.
use Rattle.std.specs.Prelude.{◌≡◌, ℕ, ◌+◌, Bool, not, List, [], ◌∷◌, reverse, length, take, drop, Some, None, Ok, Err, Option, Result, ◌==◌, nat_lt}
use Rattle.circuits.specs.Answers.{number_of}
use Rattle.circuits.specs.declared.answer.Refusal.{Refusal}
use Rattle.circuits.specs.declared.making.Making.{Making}
use Rattle.runs.specs.Events.{Event, History, room_of}
use Rattle.runs.specs.Told.{Told, DoesTold, RunTold}
use Rattle.runs.specs.declared.calls.Call.{Call}
use Rattle.runs.specs.declared.calls.Answer.{Answer}

-- the answer of a call by what it gives back: made of the value, or the refusal
abbrev pub answered_by : {A : Type 0} → (A → Answer) → Result A Refusal → Result Answer Refusal
answered_by f (Ok a) = Ok (f a)
answered_by f (Err r) = Err r

-- one call on a planning p, which leaves q; circuit and shows say of a planning what circuit it has and what it shows, and the circuit stays
abbrev pub Called : {P : Type 0} → (P → List Making) → (P → Told → Type 0) → P → Call → List ℕ → Result Answer Refusal → List ℕ → P → Type 0
Called circuit shows p a before b after q =
    (circuit q ≡ circuit p)
    × ((s : Told) → shows p s → (t : Told) × DoesTold (circuit p) s (record { call = a; before = before; answer = b; after = after }) t × shows q t)

-- one call that leaves the planning alone
abbrev pub Asked : {P : Type 0} → (P → List Making) → (P → Told → Type 0) → P → Call → List ℕ → Result Answer Refusal → List ℕ → Type 0
Asked circuit shows p a before b after = (s : Told) → shows p s → DoesTold (circuit p) s (record { call = a; before = before; answer = b; after = after }) s

-- how many numbers the calls are lent in all
abbrev pub rooms : List Call → ℕ
rooms [] = 0
rooms (a ∷ more) = room_of a + rooms more

-- calls one after another, with their answers, each lent the next part of one memory: as it was before them all, and as it is after them all
abbrev pub events : List Call → List (Result Answer Refusal) → List ℕ → List ℕ → List Event
events [] bs before after = []
events (a ∷ more) [] before after = []
events (a ∷ more) (b ∷ bs) before after =
    record { call = a; before = take (room_of a) before; answer = b; after = take (room_of a) after } ∷ events more bs (drop (room_of a) before) (drop (room_of a) after)

-- the history that they leave
abbrev pub ran : List Call → List (Result Answer Refusal) → List ℕ → List ℕ → History
ran calls answers before after = reverse (events calls answers before after)

-- a planning that shows this may have come of the history
abbrev pub Came : List Making → (Told → Type 0) → History → Type 0
Came c this h = (t : Told) × this t × RunTold c h t

-- the tests of a run, in this order: 11 answers that are not as many as the calls, 11 a memory shorter than the calls are lent in all
abbrev pub run_faults : List Call → List ℕ → List (Result Answer Refusal) → List (Bool × ℕ)
run_faults calls memory answers = (not (length answers == length calls), 11) ∷ (nat_lt (length memory) (rooms calls), 11) ∷ []

-- the number by which a result is refused
abbrev pub refused_by : {A : Type 0} → Result A Refusal → Option ℕ
refused_by (Ok u) = None
refused_by (Err r) = Some (number_of r)

-- that this holds if a result is not refused, or if it is
abbrev pub IfObeyed : {A : Type 0} → Result A Refusal → Type 0 → Type 0
IfObeyed (Ok u) P = P
IfObeyed (Err r) P = Unit {0}

abbrev pub IfRefused : {A : Type 0} → Result A Refusal → Type 0 → Type 0
IfRefused (Ok u) P = Unit {0}
IfRefused (Err r) P = P
