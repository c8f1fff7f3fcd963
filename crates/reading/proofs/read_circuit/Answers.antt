use Rattle.std.proofs.Common.{length}
use Rattle.reading.proofs.Accepted.{answered}
use Rattle.reading.proofs.read_circuit.Goals as goal

pub returns-clause-answered : goal.returns-clause-answered
returns-clause-answered c =
    let told = c.read_into.ensures in
    answered c.args.text.now c.args.limit (length c.args.table.now) (length c.args.ranks.now) c.read_into.result c.args.table.now c.read_into.new.table c.args.ranks.now c.read_into.new.ranks told.answer told.table told.ranks
