use Rattle.flows.proofs.Closing.{border_is_as_many, plan_is_earliest}
use Rattle.flows.proofs.plan_is_earliest.Goals as goal

pub returns : goal.returns
returns c = (border_is_as_many, plan_is_earliest)
