use Rattle.std.proofs.Common.{take}
use Rattle.writing.specs.Pages.{Puts}
use Rattle.writing.proofs.page.Page.put_bytes.Given as goal

abbrev pub invariant-loop-b : goal.invariant-loop-b
invariant-loop-b l = Puts l.fn.self (take l.b-index l.bytes) (record { out = l.out; at = l.next })
