use Rattle.flows.specs.Kept.{flow_in}
use Rattle.rows.proofs.Rooms.{room_of}
use Rattle.flows.proofs.Writes.{changed_at, finish_raised}
use Rattle.flows.proofs.moves.end_one.Goals as goal

pub raise-requires-clause-few : goal.raise-requires-clause-few
unfolding flow_in
raise-requires-clause-few c = c.requires.few

pub returns-clause-flow : goal.returns-clause-flow
returns-clause-flow c =
    changed_at c.raise.ensures.memory
    (finish_raised c.args.rows.now.memory.now c.args.rows.now.wires c.args.wire (room_of c.args.rows.now) c.requires.wire)
