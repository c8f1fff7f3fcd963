use Rattle.std.proofs.Common.{take}
use Rattle.writing.specs.Pages.{Puts}
use Rattle.writing.specs.Writes.{spaced}
use Rattle.writing.proofs.page.Page.put_all.Given as goal

abbrev pub invariant-loop-n : goal.invariant-loop-n
invariant-loop-n l = Puts l.initial.self (spaced (take l.n-index l.ns)) l.self
