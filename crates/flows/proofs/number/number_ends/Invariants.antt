use Rattle.std.proofs.Common.{◌≡◌}
use Rattle.routes.specs.Sums.{sum_of, ranks}
use Rattle.rows.specs.Rows.{SameRows}
use Rattle.flows.specs.Kept.{flow_in}
use Rattle.flows.specs.Numbers.{Ended}
use Rattle.flows.proofs.number.number_ends.Given as goal

abbrev pub invariant-loop-w : goal.invariant-loop-w
invariant-loop-w l =
    Ended l.initial.rows.wires l.initial.rows.memory.now l.rows.memory.now l.w × (l.total ≡ sum_of (flow_in l.initial.rows.memory.now l.initial.rows.wires).finish (ranks l.w))
    × SameRows l.initial.rows l.rows
