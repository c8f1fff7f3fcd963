use Rattle.std.proofs.Common.{◌≡◌, ◌+◌, sym, refl, ap, ◌∙◌, arith}
use Rattle.std.specs.List.{prefix_len}
use Rattle.std.proofs.lemmas.List.{take_rest, drop_more}
use Rattle.std.proofs.lemmas.List.Sums.{prefix_len-drop_yes}
use Rattle.tokens.specs.Places.{line_of}
use Rattle.tokens.specs.Headers.{gap}
use Rattle.tokens.specs.Cursors.{text_of}
use Rattle.tokens.proofs.Scan.{line_le, byte_left, byte_inside, line_next, line_same}
use Rattle.tokens.proofs.cursor.Cursor.next_line.Goals as goal
use Rattle.tokens.proofs.cursor.Cursor.next_line.Goals.{then-b-eq10, else-b-eq10}

pub loop-b-init : goal.loop-b-init
loop-b-init c = (c.args.self.now.within, c.args.self.now.counted, take_rest (text_of c.args.self.now) c.args.self.now.at, refl)

pub overflow_add-line : goal.overflow_add-line
overflow_add-line c = omega (arith, line_le (text_of c.args.self.now) c.loop-b.at c.loop-b.invariant.0, c.args.self.now.short)

pub loop-b-preserved : goal.loop-b-preserved
loop-b-preserved c =
    let text = text_of c.args.self.now in
    let at = c.loop-b.at in
    let here = sym (drop_more _ c.loop-b.b-index 0 c.loop-b-test.true) ∙ c.loop-b.invariant.2 in
    let line : c.if-b-eq10.line ≡ line_of text (at + 1) =
    elim c.if-b-eq10.branch [
      | then-b-eq10 w ↦ omega (arith, w.line-is, c.loop-b.invariant.1, line_next text at _ _ here w.if-b-eq10.true)
      | else-b-eq10 w ↦ w.line-is ∙ c.loop-b.invariant.1 ∙ sym (line_same text at _ _ here w.if-b-eq10.false)
    ] in
    let left = byte_left text at _ _ here in
    let more = prefix_len-drop_yes gap _ c.loop-b.b-index 0 c.loop-b-test.true (sym c.is_gap.ensures ∙ c.if-not-is_gap.false) in
    (byte_inside text at _ _ here, line, left, omega (arith, c.loop-b.invariant.3, more, ap (prefix_len gap) left, ap (prefix_len gap) c.loop-b.invariant.2))
