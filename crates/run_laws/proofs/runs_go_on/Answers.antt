use Rattle.run_laws.proofs.GoesOn.{runs_go_on}
use Rattle.run_laws.proofs.runs_go_on.Goals as goal

pub returns : goal.returns
returns c = runs_go_on
