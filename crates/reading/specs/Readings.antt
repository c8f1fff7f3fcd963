-- What a reading of a text into a table gives.
use Rattle.std.specs.Prelude.{Some, None, Ok, Err, Option, Result}
use Rattle.circuits.specs.Circuits.{Meaning}
use Rattle.circuits.specs.Tables.{tabled}
use Rattle.tokens.specs.declared.fault.Fault.{Fault}
use Rattle.tokens.specs.declared.header.Header.{Header}
use Rattle.reading.specs.declared.table.Reading.{Reading}

-- its answer
abbrev pub answer_in : Result Reading Fault → Result Header Fault
answer_in (Ok r) = Ok r.header
answer_in (Err f) = Err f

-- its circuit, if it gives one
abbrev pub circuit_in : Result Reading Fault → Option Meaning
circuit_in (Ok r) = Some (tabled r.circuit.entries.now r.circuit.inputs r.circuit.outputs)
circuit_in (Err f) = None
