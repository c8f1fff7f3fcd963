use Rattle.std.proofs.Common.{sym, refl}
use Rattle.std.proofs.lemmas.List.{take_more}
use Rattle.writing.proofs.Pages.{puts_join, puts_same}
use Rattle.writing.proofs.page.Page.put_bytes.Goals as goal

pub loop-b-preserved : goal.loop-b-preserved
loop-b-preserved c =
    puts_same (sym (take_more c.args.bytes.now c.loop-b.b-index 0 c.loop-b-test.true))
    (puts_join c.loop-b.invariant (record { counts = c.keep-next.ensures.next; keeps = c.keep-next.ensures.kept; lends = refl }))
