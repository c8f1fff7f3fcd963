use Rattle.std.proofs.Common.{◌*◌, length, arith}
use Rattle.std.proofs.lemmas.Bool.{lt-ltb}
use Rattle.circuits.specs.Circuits.{width}
use Rattle.routes.proofs.Wires.{lawful_is_ordered}
use Rattle.plannings.proofs.Planned.{too_short}
use Rattle.plannings.proofs.plan_circuit.Goals as goal

pub returns-then-wires-memory-clause-planned : goal.returns-then-wires-memory-clause-planned
returns-then-wires-memory-clause-planned g c =
    let t = g.C.Circuit.meaning c.args.circuit.now in
    too_short t.makings (lawful_is_ordered t (g.C.Circuit.laws c.args.circuit.now)) _
    (lt-ltb (length c.args.memory.now) (24 * width t) (omega (arith, c.wires-wires.ensures))) c.args.room.now
