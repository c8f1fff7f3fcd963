use Rattle.std.proofs.Common.{sym}
use Rattle.reading.proofs.Heads.{bounds}
use Rattle.reading.proofs.read_into.Goals as goal

pub read_body-requires-clause-few : goal.read_body-requires-clause-few
read_body-requires-clause-few c = (bounds c.args.text.now 0 _ (sym c.in_ok-header.ensures.result)).inputs
