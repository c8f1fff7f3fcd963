use Rattle.std.proofs.Common.{sym, ◌∙◌}
use Rattle.std.proofs.lemmas.Bool.{le-ltb}
use Rattle.rows.proofs.Rooms.{room_of}
use Rattle.plannings.proofs.Frames.{barred_past}
use Rattle.plannings.proofs.lent.Lent.is_barred.Goals as goal

pub returns-else-wire-self : goal.returns-else-wire-self
returns-else-wire-self c =
    let s = c.args.self.now.rows in
    le-ltb c.args.rank s.wires c.if-wire-self.false ∙ sym (barred_past s.wires s.memory.now (room_of s) c.args.rank c.if-wire-self.false)
