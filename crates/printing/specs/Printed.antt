-- What is printed of a text.
use Rattle.std.specs.Prelude.{◌≡◌, ℕ, ◌*◌, Bool, true, false, ◌||◌, List, ◌++◌, length, drop, Result, nat_lt}
use Rattle.circuits.specs.Tables.{makings_of}
use Rattle.circuits.specs.declared.answer.Refusal.{Refusal}
use Rattle.circuits.specs.declared.making.Entry.{Entry}
use Rattle.routes.specs.Plans.{EarliestSmallest}
use Rattle.plannings.specs.Running.{WritesFront}
use Rattle.reading.specs.Texts.{Outcome, untouched, cleared, filled, ranks_after}
use Rattle.printing.specs.Lines.{plan_text, fault_text, names_at}

-- the earliest smallest plan of the circuit in a table, where nothing is barred
abbrev pub ThePlan : List Entry → List ℕ → Type 0
ThePlan es plan = EarliestSmallest (makings_of es) (λ w. false) plan

-- the ranks with those of the plan at their front, unless the memory was too short for a planning
abbrev pub with_plan : Bool → List ℕ → List ℕ → List ℕ
with_plan true plan ranks = ranks
with_plan false plan ranks = plan ++ drop (length plan) ranks

-- how many wires were read
abbrev pub wires_read : Outcome → ℕ
wires_read (untouched f) = 0
wires_read (cleared w f) = 0
wires_read (filled h es) = length es

-- a memory of so many numbers is too short for the planning: 24 for each wire that was read
abbrev pub short_for : Outcome → ℕ → Bool
short_for o memory = nat_lt memory (24 * wires_read o)

-- these bytes are printed of what was read: the earliest smallest plan by name, in the order of the ranks, or the fault
abbrev pub Prints : Outcome → List ℕ → Type 0
Prints (untouched f) bytes = bytes ≡ fault_text f
Prints (cleared w f) bytes = bytes ≡ fault_text f
Prints (filled h es) bytes = (plan : List ℕ) × ThePlan es plan × (bytes ≡ plan_text (names_at es plan))

-- they are written at the front of the output; with too short an output, or too short a memory for the planning, it is refused by 11 and left as it was
abbrev pub Printed : Outcome → ℕ → List ℕ → Result ℕ Refusal → List ℕ → Type 0
Printed o memory before r after =
    (bytes : List ℕ) × Prints o bytes × WritesFront (short_for o memory || nat_lt (length before) (length bytes)) bytes before r after

-- the ranks afterwards: as reading leaves them, but for the ranks of the plan at their front where the circuit was planned
abbrev pub LeavesRanks : Outcome → Bool → List ℕ → List ℕ → Type 0
LeavesRanks (untouched f) short before after = after ≡ before
LeavesRanks (cleared w f) short before after = after ≡ ranks_after (cleared w f) before
LeavesRanks (filled h es) short before after = (plan : List ℕ) × ThePlan es plan × (after ≡ with_plan short plan (ranks_after (filled h es) before))
