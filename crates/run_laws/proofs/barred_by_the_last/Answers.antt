use Rattle.run_laws.proofs.Consequences.{barred_by_the_last}
use Rattle.run_laws.proofs.barred_by_the_last.Goals as goal

pub returns : goal.returns
returns c = barred_by_the_last
