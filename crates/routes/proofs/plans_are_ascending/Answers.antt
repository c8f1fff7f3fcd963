use Rattle.routes.proofs.Ranks.{plans_are_ascending, one_ascending_list, cost_is_capacity}
use Rattle.routes.proofs.plans_are_ascending.Goals as goal

pub returns : goal.returns
returns c = (plans_are_ascending, one_ascending_list, cost_is_capacity)
