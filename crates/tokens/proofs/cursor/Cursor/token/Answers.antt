use Rattle.std.proofs.Common.{sym, ◌∙◌}
use Rattle.std.proofs.lemmas.Bool.{eqb-true}
use Rattle.tokens.proofs.Moves.{none_here, one_here}
use Rattle.tokens.proofs.cursor.Cursor.token.Goals as goal

pub returns-then-is_empty-clause-result : goal.returns-then-is_empty-clause-result
returns-then-is_empty-clause-result c =
    let row = c.visible_row-bytes.ensures in
    c.no_token.ensures ∙ none_here c.args.self.now c.skip_blanks.new.self c.skip_blanks.ensures c.visible_row-bytes.new.self _ row.row (eqb-true _ 0 (sym c.if-is_empty.ensures)) row.moved

pub returns-in-Some-clause-result : goal.returns-in-Some-clause-result
returns-in-Some-clause-result c = one_here c.args.self.now c.skip_blanks.new.self c.skip_blanks.ensures _ c.visible_row-bytes.ensures.row (sym c.if-is_empty.ensures) _ c.in-Some.ensures

pub returns-in-None-clause-result : goal.returns-in-None-clause-result
returns-in-None-clause-result c = one_here c.args.self.now c.skip_blanks.new.self c.skip_blanks.ensures _ c.visible_row-bytes.ensures.row (sym c.if-is_empty.ensures) _ c.in-None.ensures
