use Rattle.std.proofs.Common.{take}
use Rattle.writing.specs.Pages.{Puts}
use Rattle.printing.specs.Lines.{lines_text, names_at}
use Rattle.printing.proofs.lines.Plan.put_names.Given as goal

abbrev pub invariant-loop-rank : goal.invariant-loop-rank
invariant-loop-rank l = Puts l.initial.page (lines_text (names_at l.self.table.now (take l.rank-index l.self.ranks.now))) l.page
