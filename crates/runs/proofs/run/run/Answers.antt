use Rattle.runs.proofs.Turns.{lawful}
use Rattle.runs.proofs.run.run.Goals as goal

pub returns-clause-lawful : goal.returns-clause-lawful
returns-clause-lawful g c = lawful _ _ _ _ c.run_all.ensures.continued
