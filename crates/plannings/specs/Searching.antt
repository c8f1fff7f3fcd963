-- How the searches of a step end.
use Rattle.std.specs.Prelude.{ℕ, List, Some, None, Option}
use Rattle.search.specs.Graphs.{Meaning}
use Rattle.search.specs.declared.Found.{Found}
use Rattle.graphs.specs.Outcomes.{PathFound, NoneFound}

-- over a graph: with a path of so many places, or with none
abbrev pub Searched : Meaning → List ℕ → List ℕ → Option Found → Type 0
Searched g m m' None = NoneFound g m m'
Searched g m m' (Some f) = PathFound g m m' f.length
