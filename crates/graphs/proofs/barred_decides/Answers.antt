use Rattle.graphs.proofs.BarredOutcomes.{barred_decides}
use Rattle.graphs.proofs.barred_decides.Goals as goal

pub returns : goal.returns
returns c = barred_decides
