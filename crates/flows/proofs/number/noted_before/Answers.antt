use Rattle.std.proofs.Common.{sym, ◌∙◌}
use Rattle.flows.proofs.Numbers.{noted_first, noted_second}
use Rattle.flows.proofs.number.noted_before.Goals as goal

pub returns-then-get-from : goal.returns-then-get-from
returns-then-get-from c =
    c.get-then-get-from.ensures
    ∙ noted_first c.args.rows.now.wires c.args.rows.now.memory.now c.requires.numbered c.args.from c.args.wire c.requires.wire c.requires.fed (sym c.get.ensures ∙ c.if-get-from.true)

pub returns-else-get-from : goal.returns-else-get-from
returns-else-get-from c =
    c.get-else-get-from.ensures
    ∙ noted_second c.args.rows.now.wires c.args.rows.now.memory.now c.requires.numbered c.args.from c.args.wire c.requires.wire c.requires.fed (λ e. c.if-get-from.false (c.get.ensures ∙ e))
