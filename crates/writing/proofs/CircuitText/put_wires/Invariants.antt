use Rattle.std.proofs.Common.{◌-◌, take, drop}
use Rattle.writing.specs.Pages.{Puts}
use Rattle.writing.specs.Writes.{wires_text, table_of}
use Rattle.writing.proofs.CircuitText.put_wires.Given as goal

abbrev pub invariant-loop-rank : goal.invariant-loop-rank
invariant-loop-rank g l =
    let m = g.C.Circuit.meaning l.self.circuit.now in
    Puts l.initial.page (wires_text (table_of m) (take (l.rank - m.inputs) (drop m.inputs (table_of m)))) l.page
