use Rattle.rows.specs.Rows.{SameRows}
use Rattle.flows.specs.Numbers.{Numbering}
use Rattle.flows.proofs.number.number_wires.Given as goal

abbrev pub invariant-loop-w : goal.invariant-loop-w
invariant-loop-w l = Numbering l.initial.rows.wires l.initial.rows.memory.now l.rows.memory.now l.w × SameRows l.initial.rows l.rows
