use Rattle.graphs.proofs.ResidualOutcomes.{residual_outcomes, load_feeds, residual_decides}
use Rattle.graphs.proofs.residual_decides.Goals as goal

pub returns : goal.returns
returns c = (residual_outcomes, load_feeds, residual_decides)
