use Rattle.flows.proofs.Steps.{paths_are_trails}
use Rattle.flows.proofs.Found.{found_is_stack, missed_is_closed}
use Rattle.flows.proofs.searches_decide.Goals as goal

pub returns : goal.returns
returns c = (found_is_stack, paths_are_trails, missed_is_closed)
