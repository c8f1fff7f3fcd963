use Rattle.routes.proofs.Traces.{units_have_rows, traces_are_routes, one_row_each}
use Rattle.routes.proofs.Cuts.{flows_split_into_routes}
use Rattle.routes.proofs.flows_split_into_routes.Goals as goal

pub returns : goal.returns
returns c = (flows_split_into_routes, units_have_rows, traces_are_routes, one_row_each)
