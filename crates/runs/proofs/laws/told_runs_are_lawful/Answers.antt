use Rattle.runs.proofs.Told.{told_runs_are_lawful}
use Rattle.runs.proofs.laws.told_runs_are_lawful.Goals as goal

pub returns : goal.returns
returns c = told_runs_are_lawful
