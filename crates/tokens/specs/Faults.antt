-- What a fault carries.
use Rattle.std.specs.Prelude.{◌≡◌, ℕ, ◌≤◌, cond, ◌||◌, List, length, ◌==◌}
use Rattle.circuits.specs.Answers.{number_of}
use Rattle.circuits.specs.declared.answer.Refusal.{Refusal}
use Rattle.tokens.specs.declared.fault.Fault.{Fault}
use Rattle.tokens.specs.declared.fault.Reader.{Reader}
use Rattle.tokens.specs.declared.fault.Reader.TheVariants.{Token, Line, Circuit}
use Rattle.tokens.specs.Places.{line_of}

-- the token reader finds the faults of 2 and 3, the line reader those of 4, 6 and 9, the circuit reader the others
abbrev pub finds : ℕ → Reader
finds n = cond (n == 2 || n == 3) Token (cond (n == 4 || (n == 6 || n == 9)) Line Circuit)

-- the reader that finds a fault
abbrev pub finder : Refusal → Reader
finder e = finds (number_of e)

-- the fault at a byte of the text
abbrev pub fault_at : List ℕ → Refusal → ℕ → Fault
fault_at text e byte = record { refusal = e; line = line_of text byte; byte = byte; reader = finder e }

-- the fault lies in the text, and its line and its reader go by its byte and its refusal
pub record Placed (text : List ℕ) (f : Fault) : Type 0 where
  pub inside : f.byte ≤ length text
  pub whole : f ≡ fault_at text f.refusal f.byte
