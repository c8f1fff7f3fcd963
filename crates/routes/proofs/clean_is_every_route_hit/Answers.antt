use Rattle.routes.proofs.Levels.{clean_is_every_route_hit, clean_at_one_is_clean_at_all, fresh_level_is_one}
use Rattle.routes.proofs.clean_is_every_route_hit.Goals as goal

pub returns : goal.returns
returns c = (clean_is_every_route_hit, clean_at_one_is_clean_at_all, fresh_level_is_one)
