use Rattle.rows.proofs.Rooms.{room_of}
use Rattle.flows.proofs.Drops.{emptied}
use Rattle.flows.proofs.grow.drop_routes.Goals as goal

pub returns-clause-memory : goal.returns-clause-memory
returns-clause-memory c = emptied c.args.rows.now.wires c.args.rows.now.memory.now c.clear.new.self.memory.now c.clear.ensures.same.long (room_of c.args.rows.now) c.clear.ensures.memory
