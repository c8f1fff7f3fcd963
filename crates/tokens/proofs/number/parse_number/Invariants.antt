use Rattle.tokens.proofs.Decimal.{Sofar}
use Rattle.tokens.proofs.number.parse_number.Given as goal

abbrev pub invariant-loop-b : goal.invariant-loop-b
invariant-loop-b l = Sofar l.bytes l.b-index l.n
