use Rattle.std.proofs.Common.{◌-◌}
use Rattle.rows.specs.Rows.{SameRows}
use Rattle.flows.specs.Stacks.{Pushed}
use Rattle.flows.proofs.grow.push_all.Given as goal

abbrev pub invariant-loop-i : goal.invariant-loop-i
invariant-loop-i l = Pushed l.rows.wires l.height l.initial.rows.memory.now l.rows.memory.now (l.i - 1) × SameRows l.initial.rows l.rows
