use Rattle.routes.proofs.Plans.{smallest_is_fewest}
use Rattle.routes.proofs.smallest_is_fewest.Goals as goal

pub returns : goal.returns
returns c = smallest_is_fewest
