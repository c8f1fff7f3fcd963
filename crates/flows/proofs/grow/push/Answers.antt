use Rattle.rows.specs.Held.{circuit_of, bars_of}
use Rattle.flows.specs.Kept.{flow_in}
use Rattle.flows.proofs.Steps.{unpass_needs}
use Rattle.flows.proofs.grow.push.Goals as goal

pub unpass_one-requires-clause-some : goal.unpass_one-requires-clause-some
unpass_one-requires-clause-some c =
    let m = c.args.rows.now.memory.now in
    let n = c.args.rows.now.wires in
    unpass_needs (circuit_of m n) c.requires.ordered (bars_of m n) (flow_in m n) c.args.a c.args.b c.requires.step c.if-a-eq0.false c.if-v-w.true
