use Rattle.routes.proofs.Standing.{apart_is_one_each}
use Rattle.routes.proofs.apart_is_one_each.Goals as goal

pub returns : goal.returns
returns c = apart_is_one_each
