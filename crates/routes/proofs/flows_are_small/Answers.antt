use Rattle.routes.proofs.Flows.{flows_bound_cuts}
use Rattle.routes.proofs.Cuts.{flows_are_small}
use Rattle.routes.proofs.flows_are_small.Goals as goal

pub returns : goal.returns
returns c = (flows_bound_cuts, flows_are_small)
