-- A run of calls on a new planning, and the plan of a circuit without bars.
use Rattle.std.specs.Prelude.{◌≡◌, ℕ, ◌*◌, Bool, true, false, ◌||◌, List, ◌∷◌, ◌++◌, length, drop, Some, Ok, Result, nat_lt}
use Rattle.circuits.specs.Circuits.{Meaning, width}
use Rattle.circuits.specs.declared.answer.Refusal.{Refusal}
use Rattle.circuits.specs.declared.making.Making.{Making}
use Rattle.routes.specs.Plans.{EarliestSmallest}
use Rattle.runs.specs.Calls.{run_faults, refused_by}
use Rattle.runs.specs.declared.calls.Call.{Call}
use Rattle.runs.specs.declared.calls.Answer.{Answer}

-- the tests of a run over n wires, in this order: 11 a memory of less than 24 numbers for each wire, and then those of any run
abbrev pub planning_faults : ℕ → List ℕ → List Call → List ℕ → List (Result Answer Refusal) → List (Bool × ℕ)
planning_faults n memory calls room answers = (nat_lt (length memory) (24 * n), 11) ∷ run_faults calls room answers

-- these at the front of the room, and how many they are; or, where something is too short, refused by 11 and the room as it was
abbrev pub WritesFront : Bool → List ℕ → List ℕ → Result ℕ Refusal → List ℕ → Type 0
WritesFront true xs before r after = (refused_by r ≡ Some 11) × (after ≡ before)
WritesFront false xs before r after = (r ≡ Ok (length xs)) × (after ≡ xs ++ drop (length xs) before)

-- the earliest smallest plan where nothing is barred; too short is what was too short before, or a room of less than a number for each wire of the plan
abbrev pub PlansFree : List Making → Bool → List ℕ → Result ℕ Refusal → List ℕ → Type 0
PlansFree c short before r after =
    (plan : List ℕ)
    × EarliestSmallest c (λ w. false) plan
    × WritesFront (short || nat_lt (length before) (length plan)) plan before r after

-- the same of a circuit, where a memory of less than 24 numbers for each wire is too short
abbrev pub PlansCircuit : Meaning → ℕ → List ℕ → Result ℕ Refusal → List ℕ → Type 0
PlansCircuit c memory before r after = PlansFree c.makings (nat_lt memory (24 * width c)) before r after
