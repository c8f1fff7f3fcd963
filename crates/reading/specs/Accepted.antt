-- What the answer to a text says, in the words of circuits.
use Rattle.std.specs.Prelude.{◌≡◌, ℕ, ◌+◌, true, List, length, take, Some, None, Ok, Err, Option, Result}
use Rattle.circuits.specs.Circuits.{Meaning, width}
use Rattle.circuits.specs.Tables.{Kept, tabled, lone, table_fits}
use Rattle.circuits.specs.declared.making.Entry.{Entry}
use Rattle.tokens.specs.declared.fault.Fault.{Fault}
use Rattle.tokens.specs.declared.header.Header.{Header}
use Rattle.tokens.specs.Places.{token_lines}
use Rattle.tokens.specs.Faults.{Placed}

-- the entries and ranks are the table of the circuit that the text means: it is lawful and makes each name once, and the
-- constructor of tables takes it; the text has three lines and one for each gate
pub record Accepted (text : List ℕ) (m : Option Meaning) (h : Header) (es : List Entry) (rs : List ℕ) : Type 0 where
  pub lines : token_lines text ≡ 3 + h.gates
  pub wires : length es ≡ h.wires
  pub meant : m ≡ Some (tabled es h.inputs h.outputs)
  pub kept : Kept es rs h.inputs h.outputs
  pub fits : table_fits es rs h.inputs h.outputs ≡ true

-- the text means no circuit, and its fault lies in it
pub record Refused (text : List ℕ) (m : Option Meaning) (f : Fault) : Type 0 where
  pub none : m ≡ None
  pub placed : Placed text f

-- what the answer says of the text, of what it means, and of the two memories
abbrev pub Answered : List ℕ → Option Meaning → Result Header Fault → List Entry → List ℕ → Type 0
Answered text m (Ok h) table ranks = Accepted text m h (take h.wires table) (take h.wires ranks)
Answered text m (Err f) table ranks = Refused text m f

-- the circuit that a text means, or else a lone input
abbrev pub or_lone : Option Meaning → Meaning
or_lone (Some m) = m
or_lone None = lone

-- what the answer says of the circuit that is given
abbrev pub Gives : List ℕ → Result Header Fault → Meaning → Type 0
Gives text (Ok h) m = (token_lines text ≡ 3 + h.gates) × ((width m ≡ h.wires) × ((m.inputs ≡ h.inputs) × (m.outputs ≡ h.outputs)))
Gives text (Err f) m = Placed text f × (m ≡ lone)
