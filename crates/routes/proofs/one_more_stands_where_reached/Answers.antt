use Rattle.routes.proofs.Existence.{one_more_stands_where_reached}
use Rattle.routes.proofs.one_more_stands_where_reached.Goals as goal

pub returns : goal.returns
returns c = one_more_stands_where_reached
