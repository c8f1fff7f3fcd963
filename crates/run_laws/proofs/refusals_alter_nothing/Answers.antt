use Rattle.run_laws.proofs.Consequences.{tested_in_order, refusals_alter_nothing}
use Rattle.run_laws.proofs.refusals_alter_nothing.Goals as goal

pub returns : goal.returns
returns c = record { order = tested_in_order; unaltered = refusals_alter_nothing }
