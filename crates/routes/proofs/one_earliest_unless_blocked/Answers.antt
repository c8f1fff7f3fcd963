use Rattle.routes.proofs.Plans.{earliest_is_one}
use Rattle.routes.proofs.Existence.{one_earliest_unless_blocked, earliest_exists_unless_blocked}
use Rattle.routes.proofs.one_earliest_unless_blocked.Goals as goal

pub returns : goal.returns
returns c = (one_earliest_unless_blocked, earliest_exists_unless_blocked, earliest_is_one)
