use Rattle.routes.proofs.Plans.{standing_routes_bound_cost, routes_apart_bound_plans}
use Rattle.routes.proofs.routes_bound_plans.Goals as goal

pub returns : goal.returns
returns c = (standing_routes_bound_cost, routes_apart_bound_plans)
