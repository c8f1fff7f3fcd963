use Rattle.std.proofs.Common.{ap, ◌∙◌}
use Rattle.tokens.specs.Lines.{number_at}
use Rattle.tokens.proofs.Passes.{pass_goes}
use Rattle.tokens.proofs.cursor.Cursor.pass_numbers.Goals as goal

pub loop-preserved : goal.loop-preserved
loop-preserved c =
    let told = c.in_ok-number.ensures in
    (pass_goes c.args.self.now.text.now c.args.k c.loop.counter _ _ c.loop.invariant.0 c.loop-test.true _ _ (told.result ∙ ap (λ r. number_at r.now c.loop.self.at) c.loop.invariant.1), told.text ∙ c.loop.invariant.1)
