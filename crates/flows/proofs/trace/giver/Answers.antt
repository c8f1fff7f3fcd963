use Rattle.std.proofs.Common.{◌-◌, ap, arith}
use Rattle.flows.specs.Kept.{flow_in}
use Rattle.rows.proofs.Rooms.{room_seen}
use Rattle.flows.proofs.Units.{total_read, gives_read}
use Rattle.flows.proofs.trace.giver.Goals as goal

pub overflow_sub-rest : goal.overflow_sub-rest
unfolding flow_in
overflow_sub-rest c = omega (arith, c.requires.later, c.get.ensures)

pub slot-requires : goal.slot-requires
unfolding flow_in
slot-requires c =
    total_read c.args.rows.now.memory.now c.args.rows.now.wires c.args.at.wire c.making.result c.get-a.result c.get-b.result
    c.making.ensures c.get-a.ensures c.get-b.ensures (room_seen c.args.rows.now) c.requires.ordered c.requires.flows c.requires.wire
    c.args.at.number (c.args.at.number - c.get.result) (ap (λ k. c.args.at.number - k) c.get.ensures) c.requires.some c.requires.later

pub returns : goal.returns
unfolding flow_in
returns c =
    gives_read c.args.rows.now.memory.now c.args.rows.now.wires c.args.at.wire c.making.result c.get-a.result c.get-b.result
    c.making.ensures c.get-a.ensures c.get-b.ensures (room_seen c.args.rows.now) c.requires.ordered c.requires.flows c.requires.wire
    c.args.at.number (c.args.at.number - c.get.result) (ap (λ k. c.args.at.number - k) c.get.ensures) c.requires.some c.requires.later
    c.slot.result.wire c.slot.result.number c.slot.ensures
