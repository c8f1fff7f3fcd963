use Rattle.std.proofs.Common.{decimal, sym, ap}
use Rattle.std.proofs.lemmas.List.{length-map}
use Rattle.writing.specs.Writes.{name_of}
use Rattle.writing.proofs.Pages.{puts_join, puts_same}
use Rattle.printing.proofs.lines.PlanText.put.Goals as goal

pub returns : goal.returns
returns c =
    let many = length-map c.args.self.now.ranks.now (name_of c.args.self.now.table.now) in
    puts_join (puts_join (puts_join c.put_bytes.ensures (puts_same (ap decimal (sym many)) c.put_number.ensures)) c.put_byte.ensures) c.put_names.ensures
