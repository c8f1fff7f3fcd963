use Rattle.routes.proofs.Paths.{trails_add_one}
use Rattle.routes.proofs.trails_add_one.Goals as goal

pub returns : goal.returns
returns c = trails_add_one
