use Rattle.graphs.proofs.Fronts.{rows_in_front, lists_are_fed, loaded_by_front}
use Rattle.graphs.proofs.front_is_loaded.Goals as goal

pub returns : goal.returns
returns c = (rows_in_front, lists_are_fed, loaded_by_front)
