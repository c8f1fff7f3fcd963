use Rattle.flows.specs.Kept.{flow_in}
use Rattle.flows.specs.Units.{Leading}
use Rattle.flows.proofs.trace.noted_back.Given as goal

abbrev pub invariant-loop-at : goal.invariant-loop-at
invariant-loop-at l = Leading (flow_in l.rows.memory.now l.rows.wires) l.i l.rows.wires l.at.wire l.at.number l.len l.initial.out l.out

abbrev pub decreases-loop-at : goal.decreases-loop-at
decreases-loop-at l = l.at.wire
