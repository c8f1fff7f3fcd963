-- What a caller in C is told of a reading.
use Rattle.std.specs.Prelude.{◌≡◌, ℕ, Bool, true, false, List, length, Ok, Err, Result}
use Rattle.circuits.specs.Answers.{number_of}
use Rattle.tokens.specs.declared.fault.Fault.{Fault}
use Rattle.tokens.specs.declared.header.Header.{Header}
use Rattle.reading.specs.Texts.{Outcome, read, answer, ranks_after}
use Rattle.bristol_c.specs.declared.Report.{Report}

-- the counts of the circuit, or the number and the place of the fault
abbrev pub reported : Result Header Fault → Report
reported (Ok h) = record { refusal = 0; wires = h.wires; inputs = h.inputs; outputs = h.outputs; line = 0; byte = 0 }
reported (Err f) = record { refusal = number_of f.refusal; wires = 0; inputs = 0; outputs = 0; line = f.line; byte = f.byte }

-- the reading of a text, with as many entries as ranks
abbrev pub reading : List ℕ → List ℕ → Outcome
reading text ranks = read text 67108864 (length ranks) (length ranks)

-- where there was memory for the entries the text is read and reported; else nothing is changed
abbrev pub Told : Bool → List ℕ → List ℕ → List ℕ → Report → Report → Type 0
Told true text ranks ranks' report report' = (report' ≡ reported (answer (reading text ranks))) × (ranks' ≡ ranks_after (reading text ranks) ranks)
Told false text ranks ranks' report report' = (report' ≡ report) × (ranks' ≡ ranks)
