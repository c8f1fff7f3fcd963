use Rattle.routes.proofs.Existence.{routes_stand_up_to_cost, routes_apart_up_to_size}
use Rattle.routes.proofs.routes_stand_up_to_cost.Goals as goal

pub returns : goal.returns
returns c = (routes_stand_up_to_cost, routes_apart_up_to_size)
