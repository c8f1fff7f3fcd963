use Rattle.writing.proofs.Pages.{puts_join}
use Rattle.writing.proofs.page.Page.put_gate.Goals as goal

pub returns : goal.returns
returns c =
    puts_join c.put_number.ensures
    (puts_join c.put_spaced.ensures
    (puts_join c.put_all.ensures
    (puts_join c.put_spaced-2.ensures
    (puts_join c.put_byte.ensures
    (puts_join c.put_bytes.ensures c.put_byte-2.ensures)))))
