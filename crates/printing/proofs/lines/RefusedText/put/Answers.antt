use Rattle.std.proofs.Common.{decimal, ap}
use Rattle.writing.proofs.Pages.{puts_join, puts_same}
use Rattle.printing.proofs.lines.RefusedText.put.Goals as goal

pub returns : goal.returns
returns c =
    puts_join (puts_join c.put_bytes.ensures (puts_same (ap decimal c.number.ensures) c.put_number.ensures))
    (puts_join (puts_join c.put_bytes-2.ensures c.put_number-2.ensures)
    (puts_join (puts_join c.put_bytes-3.ensures c.put_number-3.ensures) c.put_byte.ensures))
