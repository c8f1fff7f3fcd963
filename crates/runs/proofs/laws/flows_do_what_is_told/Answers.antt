use Rattle.runs.proofs.Shown.{flows_do_what_is_told}
use Rattle.runs.proofs.laws.flows_do_what_is_told.Goals as goal

pub returns : goal.returns
returns c = flows_do_what_is_told
