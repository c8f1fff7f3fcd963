use Rattle.std.proofs.Common.{◌∙◌, sym}
use Rattle.writing.proofs.Pages.{puts_join, puts_same}
use Rattle.writing.proofs.Sounds.{heads, table_length}
use Rattle.writing.proofs.CircuitTextText.put.Goals as goal

pub returns : goal.returns
returns g c =
    let m = g.C.Circuit.meaning c.args.self.now.circuit.now in
    puts_join (puts_same (heads _ _ _ _ _ _ (c.wires.ensures ∙ sym (table_length m (g.C.Circuit.laws c.args.self.now.circuit.now))) c.inputs.ensures c.outputs.ensures) c.put_head.ensures) c.put_wires.ensures
