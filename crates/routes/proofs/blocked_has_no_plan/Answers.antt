use Rattle.routes.proofs.Cuts.{blocked_is_barred_row}
use Rattle.routes.proofs.Plans.{blocked_has_no_plan}
use Rattle.routes.proofs.blocked_has_no_plan.Goals as goal

pub returns : goal.returns
returns c = (blocked_has_no_plan, blocked_is_barred_row)
