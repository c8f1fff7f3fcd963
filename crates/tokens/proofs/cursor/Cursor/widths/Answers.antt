use Rattle.std.proofs.Common.{◌≡◌, ◌-◌, true, false, ◌&&◌, leb, Ok, Err, ap, ◌∙◌, rules, tests}
use Rattle.circuits.specs.declared.answer.Refusal.TheVariants as refusal
use Rattle.tokens.specs.Faults.{fault_at}
use Rattle.tokens.specs.Lines.{number_at}
use Rattle.tokens.proofs.Widths.{width_fits, width_bad}
use Rattle.tokens.proofs.cursor.Cursor.widths.Goals as goal

pub returns-then-not-contains-clause-result : goal.returns-then-not-contains-clause-result
returns-then-not-contains-clause-result c =
    let told = c.in_ok-width.ensures in
    let text = c.args.self.now.text.now in
    let same = told.text ∙ c.loop.invariant.1 in
    let read : Ok (c.in_ok-width.width, c.number.new.self.at) ≡ number_at text c.loop.self.at = told.result ∙ ap (λ r. number_at r.now c.loop.self.at) c.loop.invariant.1 in
    let outside : (leb 1 c.in_ok-width.width.value && leb c.in_ok-width.width.value (c.args.wires - c.loop.sum)) ≡ false = search (rules, tests) in
    let here = ap Err (c.fault.ensures told.line) ∙ ap (λ r. Err (fault_at r.now refusal.BadWidth c.in_ok-width.width.at)) same in
    here ∙ width_bad text c.args.wires c.args.k c.loop.counter c.loop.sum _ _ c.loop.invariant.2 c.loop-test.true c.loop.invariant.0 _ _ read outside

pub loop-preserved : goal.loop-preserved
loop-preserved c =
    let told = c.in_ok-width.ensures in
    let text = c.args.self.now.text.now in
    let read : Ok (c.in_ok-width.width, c.number.new.self.at) ≡ number_at text c.loop.self.at = told.result ∙ ap (λ r. number_at r.now c.loop.self.at) c.loop.invariant.1 in
    let inside : (leb 1 c.in_ok-width.width.value && leb c.in_ok-width.width.value (c.args.wires - c.loop.sum)) ≡ true = search (rules, tests) in
    let goes = width_fits text c.args.wires c.args.k c.loop.counter c.loop.sum _ _ c.loop.invariant.2 c.loop-test.true c.loop.invariant.0 _ _ read inside in
    (goes.0, told.text ∙ c.loop.invariant.1, goes.1)
