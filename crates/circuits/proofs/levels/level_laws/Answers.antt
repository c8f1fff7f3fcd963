use Rattle.circuits.proofs.LevelLaws.{level_laws}
use Rattle.circuits.proofs.levels.level_laws.Goals as goal

pub returns : goal.returns
returns c = level_laws
