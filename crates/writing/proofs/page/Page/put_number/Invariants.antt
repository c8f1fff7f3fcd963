use Rattle.std.proofs.Common.{◌≡◌, ◌+◌, ◌<◌, ◌≤◌, ◌++◌, length, drop, decimal}
use Rattle.writing.proofs.page.Page.put_number.Given as goal

abbrev pub invariant-loop-rest : goal.invariant-loop-rest
invariant-loop-rest l =
    (l.first < 20) × (length l.digits ≡ 20) × (length (decimal l.rest) ≤ l.first + 1)
    × (decimal l.rest ++ drop (l.first + 1) l.digits ≡ decimal l.n)

abbrev pub decreases-loop-rest : goal.decreases-loop-rest
decreases-loop-rest l = l.rest
