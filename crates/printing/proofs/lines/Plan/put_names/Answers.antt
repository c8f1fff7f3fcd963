use Rattle.std.proofs.Common.{[], ◌∷◌, ◌++◌, decimal, refl, ap}
use Rattle.writing.specs.Writes.{name_of}
use Rattle.writing.proofs.Pages.{puts_join, puts_next, puts_same}
use Rattle.printing.specs.Lines.{lines_text, names_at}
use Rattle.printing.proofs.lines.Plan.put_names.Goals as goal

pub loop-rank-preserved : goal.loop-rank-preserved
loop-rank-preserved c =
    let es = c.args.self.now.table.now in
    let ranks = c.args.self.now.ranks.now in
    puts_next (λ ws. lines_text (names_at es ws)) (λ w. decimal (name_of es w) ++ (10 ∷ [])) refl (λ _ _. refl) ranks c.loop-rank.rank-index 0 c.loop-rank-test.true
    c.loop-rank.invariant (puts_join (puts_same (ap decimal c.name.ensures) c.put_number.ensures) c.put_byte.ensures)
