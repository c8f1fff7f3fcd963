use Rattle.std.proofs.Common.{◌+◌, ◌*◌, ap}
use Rattle.rows.proofs.Rooms.{room_of}
use Rattle.flows.proofs.Endings.{marked}
use Rattle.flows.proofs.number.mark_ends.Goals as goal

pub returns-clause-memory : goal.returns-clause-memory
returns-clause-memory c =
    let n = c.args.rows.now.wires in
    marked n c.args.rows.now.memory.now c.fill.new.self c.args.from c.args.to c.args.wire (c.number.result * n + c.args.from) (c.number.result * n + c.args.to)
    (room_of c.args.rows.now) c.requires.order c.requires.within (ap (λ r. r * n + c.args.from) c.number.ensures) (ap (λ r. r * n + c.args.to) c.number.ensures)
    (c.fill.ensures.after (λ y e. e))
