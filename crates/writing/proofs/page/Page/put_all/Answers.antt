use Rattle.std.proofs.Common.{◌∷◌, decimal, refl}
use Rattle.writing.specs.Writes.{spaced}
use Rattle.writing.proofs.Pages.{puts_next}
use Rattle.writing.proofs.page.Page.put_all.Goals as goal

pub loop-n-preserved : goal.loop-n-preserved
loop-n-preserved c = puts_next spaced (λ n. 32 ∷ decimal n) refl (λ _ _. refl) c.args.ns.now c.loop-n.n-index 0 c.loop-n-test.true c.loop-n.invariant c.put_spaced.ensures
