use Rattle.routes.proofs.Flows.{border_is_full_cut, border_is_earliest_cut}
use Rattle.routes.proofs.Plans.{border_is_the_earliest}
use Rattle.routes.proofs.border_is_earliest_cut.Goals as goal

pub returns : goal.returns
returns c = (border_is_full_cut, border_is_earliest_cut, border_is_the_earliest)
