use Rattle.std.proofs.Common.{◌+◌, ◌*◌, get_or, sym, ap, ◌∙◌}
use Rattle.rows.proofs.Cells.{cell_at}
use Rattle.rows.specs.Rows.{row_number}
use Rattle.rows.proofs.rows.View.get.Goals as goal

pub returns : goal.returns
returns c =
    ap (λ r. get_or c.args.self.now.memory.now (r * c.args.self.now.wires + c.args.wire) 0) c.number.ensures
    ∙ sym (cell_at c.args.self.now.memory.now c.args.self.now.wires (row_number c.args.row) c.args.wire c.requires)
