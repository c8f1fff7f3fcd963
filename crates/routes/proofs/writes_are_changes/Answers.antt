use Rattle.routes.proofs.Stored.{slots_add_up, writes_are_changes}
use Rattle.routes.proofs.writes_are_changes.Goals as goal

pub returns : goal.returns
returns c = (slots_add_up, writes_are_changes)
