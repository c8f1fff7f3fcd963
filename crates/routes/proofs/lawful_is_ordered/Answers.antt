use Rattle.routes.proofs.Wires.{lawful_is_ordered}
use Rattle.routes.proofs.lawful_is_ordered.Goals as goal

pub returns : goal.returns
returns c = lawful_is_ordered
