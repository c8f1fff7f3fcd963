use Rattle.std.proofs.Common.{sym, ap, ◌∙◌}
use Rattle.std.proofs.lemmas.Bool.{le-ltb}
use Rattle.circuits.specs.Levels.{produced}
use Rattle.routes.proofs.Wires.{produced_is}
use Rattle.rows.specs.Held.{circuit_in}
use Rattle.rows.proofs.Rooms.{room_of}
use Rattle.plannings.proofs.Frames.{produced_past}
use Rattle.plannings.proofs.lent.Lent.is_produced.Goals as goal

pub returns-then-wire-self : goal.returns-then-wire-self
returns-then-wire-self c =
    c.is_produced.ensures ∙ ap produced c.making.ensures ∙ sym (produced_is (circuit_in c.args.self.now.rows) c.args.rank)

pub returns-else-wire-self : goal.returns-else-wire-self
returns-else-wire-self c =
    let s = c.args.self.now.rows in
    le-ltb c.args.rank s.wires c.if-wire-self.false ∙ sym (produced_past s.wires s.memory.now (room_of s) c.args.rank c.if-wire-self.false)
