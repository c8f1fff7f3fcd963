use Rattle.std.proofs.Common.{length, ap, ◌∙◌}
use Rattle.std.proofs.lemmas.Result.{err_from_is_err_and}
use Rattle.reading.specs.Texts.{next_gate}
use Rattle.reading.specs.Memory.{wires_of}
use Rattle.reading.proofs.Bodies.{gates_stop, gates_go}
use Rattle.reading.proofs.Lasting.{lasts_on}
use Rattle.reading.proofs.made.Made.gates.Goals as goal

pub returns-in_err-next_gate-clause-result : goal.returns-in_err-next_gate-clause-result
returns-in_err-next_gate-clause-result c =
    let told = c.in_err-next_gate.ensures in
    let p = err_from_is_err_and c.from_residual.result c.from_residual.ensures.1 in
    let es = wires_of c.loop.self in
    rw (p.1, p.2) (gates_stop c.args.cursor.now.text.now (length c.args.self.now.table.now) c.args.gates c.loop.counter _ es _ c.loop.invariant.1 c.loop-test.true _ (told.result ∙ ap (λ r. next_gate r.now (length c.loop.self.table.now) es c.loop.cursor.at) c.loop.invariant.0 ∙ ap (λ w. next_gate c.args.cursor.now.text.now w es c.loop.cursor.at) c.loop.invariant.2.rows))

pub loop-preserved : goal.loop-preserved
loop-preserved c =
    let told = c.in_ok-next_gate.ensures in
    let es = wires_of c.loop.self in (
      told.text ∙ c.loop.invariant.0,
      gates_go c.args.cursor.now.text.now (length c.args.self.now.table.now) c.args.gates c.loop.counter _ es _ c.loop.invariant.1 c.loop-test.true _ _ (told.result ∙ ap (λ r. next_gate r.now (length c.loop.self.table.now) es c.loop.cursor.at) c.loop.invariant.0 ∙ ap (λ w. next_gate c.args.cursor.now.text.now w es c.loop.cursor.at) c.loop.invariant.2.rows),
      lasts_on _ _ _ c.loop.invariant.2 told.lasts,
    )
