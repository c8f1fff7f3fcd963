use Rattle.flows.specs.Kept.{flow_in}
use Rattle.rows.proofs.Rooms.{room_of}
use Rattle.flows.proofs.Writes.{changed_at, through_lowered}
use Rattle.flows.proofs.moves.unpass_one.Goals as goal

pub lower-requires-clause-some : goal.lower-requires-clause-some
unfolding flow_in
lower-requires-clause-some c = c.requires.some

pub returns-clause-flow : goal.returns-clause-flow
returns-clause-flow c =
    changed_at c.lower.ensures.memory
    (through_lowered c.args.rows.now.memory.now c.args.rows.now.wires c.args.wire (room_of c.args.rows.now) c.requires.wire)
