use Rattle.std.proofs.Common.{◌+◌, ap, ◌∙◌, sym, rules}
use Rattle.std.proofs.lemmas.List.{length-take-le}
use Rattle.tokens.specs.Places.{visible, line_of}
use Rattle.tokens.specs.Cursors.{text_of}
use Rattle.tokens.proofs.Scan.{visible_inside}
use Rattle.tokens.proofs.Moves.{onward}
use Rattle.tokens.proofs.cursor.Cursor.visible_row.Goals as goal

pub invariant_of-self-clause-counted : goal.invariant_of-self-clause-counted
invariant_of-self-clause-counted c =
    (onward c.args.self.now visible visible_inside _ (c.run_len.ensures.run visible (λ b r e. search rules))).same
    ∙ ap (λ n. line_of (text_of c.args.self.now) (c.args.self.now.at + n)) (sym (length-take-le c.run_len.result _ c.run_len.ensures.within))
