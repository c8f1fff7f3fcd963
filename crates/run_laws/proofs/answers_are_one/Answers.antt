use Rattle.run_laws.proofs.Consequences.{answers_are_one}
use Rattle.run_laws.proofs.answers_are_one.Goals as goal

pub returns : goal.returns
returns c = answers_are_one
