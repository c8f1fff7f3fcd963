-- The law of runs: what holds of all that has happened on a planning.
--
-- A planning is new, and then bar, unbar, step, plan and route are called on it, in any order and number, each obeyed or refused, and
-- nothing else changes it or its memory. `LawfulRun` holds of every such history, at every moment, for every circuit; what it says of
-- levels holds for every scheme of limit two, since a plan that `Fits` is clean at all of them.
--
--   What plan gives when obeyed has no barred wire,                                          `Plans`: `earliest.cheapest.fits.free`
--   and keeps every level within the limit at every scheme of limit two.                     `Plans`: `earliest.cheapest.fits.clean`
--   Every other such plan has at least as many wires.                                        `Plans`: `earliest.cheapest.least`
--   It is the earliest of the smallest plans, as ascending ranks.                            `Plans`: `earliest.first`, `earliest.cheapest.fits.planned`
--   Route, when closed, gives as many routes as that plan has wires,                         `RoutesStand`, closed, and `Plans`: both k, the count of grown
--   no two through the same unbarred wire,                                                   `RoutesStand`, closed: `Apart`
--   and the same ones until a bar or unbar is obeyed.                                        `RoutesStand`, closed: one list for all that was given
--   A step that is obeyed answers blocked exactly when some route has only barred wires.     `Steps`
--   Route then gives such a one, and the same until a bar or unbar is obeyed.                `RoutesStand`, blocked
--   Else a smallest plan of k wires takes k grown steps and then closed.                     `Steps`: the count of grown is below k, or is k
--   A call is refused exactly where it is said, by the number that is said,                  `faults`, `Answers`
--   and a refusal alters nothing.                                                            `RefusedBy`: the memory lent stays; and neither `barred` nor
--                                                                                            `epoch` is another after a call that was refused
use Rattle.std.specs.Prelude.{◌≡◌, ℕ, ◌<◌, ◌≤◌, Bool, true, false, not, List, [], ◌∷◌, ◌++◌, length, drop, Some, None, Ok, Err, Option, Result, nat_le, nat_lt, slice_index_or}
use Rattle.std.specs.List.{AllByRecursion}
use Rattle.circuits.specs.Answers.{number_of, first_fault}
use Rattle.circuits.specs.Levels.{produced_at}
use Rattle.circuits.specs.declared.answer.Refusal.{Refusal}
use Rattle.circuits.specs.declared.making.Making.{Making}
use Rattle.routes.specs.Routes.{Wires, Route}
use Rattle.routes.specs.Standing.{Apart}
use Rattle.routes.specs.Plans.{Smallest, EarliestSmallest, Blocked}
use Rattle.runs.specs.Events.{Event, History, Given, room_of, barred, epoch}
use Rattle.runs.specs.declared.calls.Call.{Call}
use Rattle.runs.specs.declared.calls.Answer.{Answer}
use Rattle.runs.specs.declared.calls.State.{State}
use Rattle.runs.specs.declared.calls.Stepped.{Stepped}
use Rattle.runs.specs.declared.calls.Call.TheVariants as call
use Rattle.runs.specs.declared.calls.Answer.TheVariants as answer
use Rattle.runs.specs.declared.calls.State.TheVariants as state
use Rattle.runs.specs.declared.calls.Stepped.TheVariants as stepped

-- the state is open
abbrev pub is_open : State → Bool
is_open state.Open = true
is_open state.Closed = false
is_open state.Blocked = false

-- the state is blocked
abbrev pub is_blocked : State → Bool
is_blocked state.Open = false
is_blocked state.Closed = false
is_blocked state.Blocked = true

-- how many routes can be asked for
abbrev pub offered : State → ℕ → ℕ
offered state.Open k = 0
offered state.Closed k = k
offered state.Blocked k = 1

-- what a call is tested for, in this order, each with its number, where these wires are barred, the state is s and k steps have answered grown
abbrev pub faults : List Making → Wires → State → ℕ → Call → List (Bool × ℕ)
faults c bars s k (call.Bar w) = (not (produced_at c w), 12) ∷ (bars w, 15) ∷ []
faults c bars s k (call.Unbar w) = (not (produced_at c w), 12) ∷ (not (bars w), 16) ∷ []
faults c bars s k call.Step = (not (is_open s), 17) ∷ []
faults c bars s k (call.Plan n) = (is_open s, 18) ∷ (is_blocked s, 19) ∷ (nat_lt n k, 11) ∷ []
faults c bars s k (call.Route i n) = (is_open s, 18) ∷ (nat_le (offered s k) i, 13) ∷ (nat_lt n (length c), 11) ∷ []

-- the ranks are written at the front of the memory, and the rest stays
abbrev pub Wrote : List ℕ → List ℕ → List ℕ → Type 0
Wrote ranks before after = (length ranks ≤ length before) × (after ≡ ranks ++ drop (length ranks) before)

-- what a step answers after k that answered grown: blocked if some route has only barred wires; else grown while the smallest plans have
-- more than k wires, and closed when they have k
abbrev pub Steps : List Making → Wires → ℕ → Stepped → Type 0
Steps c bars k stepped.Grown = (Blocked c bars → ⊥) × ((plan : List ℕ) × Smallest c bars plan × (k < length plan))
Steps c bars k stepped.Closed = (Blocked c bars → ⊥) × ((plan : List ℕ) × Smallest c bars plan × (k ≡ length plan))
Steps c bars k stepped.Blocked = Blocked c bars

-- the ranks are the earliest smallest plan, and as many as steps answered grown
pub record Plans (c : List Making) (bars : Wires) (k : ℕ) (plan : List ℕ) : Type 0 where
  pub earliest : EarliestSmallest c bars plan
  pub as_many : length plan ≡ k

-- what a call does that is obeyed; which route is written is said of all that are given, below
abbrev pub Obeyed : List Making → Wires → ℕ → Call → List ℕ → Result Answer Refusal → List ℕ → Type 0
Obeyed c bars k (call.Bar w) before a after = (a ≡ Ok answer.Done) × (after ≡ before)
Obeyed c bars k (call.Unbar w) before a after = (a ≡ Ok answer.Done) × (after ≡ before)
Obeyed c bars k call.Step before a after = (g : Stepped) × (a ≡ Ok (answer.Stepped g)) × Steps c bars k g × (after ≡ before)
Obeyed c bars k (call.Plan n) before a after =
    (plan : List ℕ) × (a ≡ Ok (answer.Planned (length plan))) × Wrote plan before after × Plans c bars k plan
Obeyed c bars k (call.Route i n) before a after = (r : List ℕ) × (a ≡ Ok (answer.Routed (length r))) × Wrote r before after

-- the answer is the refusal of this number, and the memory lent is as it was
abbrev pub RefusedBy : ℕ → Event → Type 0
RefusedBy n e = (r : Refusal) × (number_of r ≡ n) × (e.answer ≡ Err r) × (e.after ≡ e.before)

-- what a call does, by the first fault that is found
abbrev pub Answered : Option ℕ → List Making → Wires → ℕ → Event → Type 0
Answered (Some n) c bars k e = RefusedBy n e
Answered None c bars k e = Obeyed c bars k e.call e.before e.answer e.after

-- a call is refused by the first fault that is found, and alters nothing; with no fault it is obeyed
abbrev pub Answers : List Making → Wires → State → ℕ → Event → Type 0
Answers c bars s k e = Answered (first_fault (faults c bars s k e.call)) c bars k e

-- the route that was given is the one of its index
abbrev pub IsAt : List (List ℕ) → Given → Type 0
IsAt rs g = (g.0 < length rs) × (slice_index_or rs g.0 [] ≡ g.1)

-- when closed, k routes of which no two share an unbarred wire are at hand, and whatever was given under index i is the i-th of them;
-- when blocked, one route of barred wires is, and whatever was given is that one
abbrev pub RoutesStand : List Making → Wires → State → ℕ → List Given → Type 0
RoutesStand c bars state.Open k gs = gs ≡ []
RoutesStand c bars state.Closed k gs =
    (rs : List (List ℕ)) × AllByRecursion (Route c) rs × Apart bars rs × (length rs ≡ k) × AllByRecursion (IsAt rs) gs
RoutesStand c bars state.Blocked k gs =
    (r : List ℕ) × Route c r × AllByRecursion (λ w. bars w ≡ true) r × AllByRecursion (IsAt (r ∷ [])) gs

-- that at the end of a history
abbrev pub RoutesAt : List Making → History → Type 0
RoutesAt c h = RoutesStand c (barred h) (epoch h).state (epoch h).grown (epoch h).given

-- each call is lent its room and answers as it must after those before it, and the routes stand after each
abbrev pub LawfulRun : List Making → History → Type 0
LawfulRun c [] = Unit {0}
LawfulRun c (e ∷ h) =
    LawfulRun c h
    × (length e.before ≡ room_of e.call)
    × Answers c (barred h) (epoch h).state (epoch h).grown e
    × RoutesAt c (e ∷ h)
