use Rattle.std.proofs.Common.{◌+◌, take, refl, ap, ◌∙◌, sym, arith}
use Rattle.reading.specs.Texts.{made, inputs}
use Rattle.reading.proofs.Inputs.{keeps_none, inputs_unmade, input_more}
use Rattle.reading.proofs.Lasting.{lasts_on}
use Rattle.reading.proofs.made.Made.of_inputs.Goals as goal

pub invariant_of-made-clause-keeps : goal.invariant_of-made-clause-keeps
invariant_of-made-clause-keeps c = keeps_none c.args.table.now c.fill.new.self _ refl c.args.ranks.now c.requires.names (c.fill.ensures.after (λ y e. e))

pub put-requires : goal.put-requires
put-requires c = record { named = omega (arith, c.loop-name-test.true, c.requires.few, c.loop-name.invariant.2.rows); fresh = ap (λ l. made l c.loop-name.name) c.loop-name.invariant.1 ∙ inputs_unmade c.loop-name.made.count c.loop-name.name (omega (arith, c.loop-name.invariant.0)) }

pub loop-name-preserved : goal.loop-name-preserved
loop-name-preserved c =
    let more = input_more c.loop-name.made.count c.loop-name.name c.loop-name.made.table.now c.put.new.self.table.now c.loop-name.invariant.0 (omega (arith, c.loop-name-test.true, c.requires.few, c.loop-name.invariant.0, c.loop-name.invariant.2.rows)) c.loop-name.invariant.1 c.put.ensures.table in
    (c.put.ensures.count ∙ ap (λ k. k + 1) c.loop-name.invariant.0, ap (λ k. take k c.put.new.self.table.now) c.put.ensures.count ∙ more ∙ ap inputs (sym c.put.ensures.count), lasts_on _ _ _ c.loop-name.invariant.2 c.put.ensures.lasts)
