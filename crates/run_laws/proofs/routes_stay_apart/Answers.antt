use Rattle.run_laws.proofs.Consequences.{routes_stay_apart}
use Rattle.run_laws.proofs.routes_stay_apart.Goals as goal

pub returns : goal.returns
returns c = routes_stay_apart
