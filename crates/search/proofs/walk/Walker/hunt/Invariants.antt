use Rattle.std.proofs.Common.{take}
use Rattle.search.specs.Searches.{Served}
use Rattle.search.specs.Walks.{On}
use Rattle.search.proofs.walk.Walker.hunt.Given as goal

abbrev pub invariant-loop-number : goal.invariant-loop-number
invariant-loop-number g l =
    On (g.G.Graph.meaning l.self.graph.now) l.self.base l.self.count (take l.self.base l.initial.memory) l.initial.memory l.memory 0
    × Served ((g.G.Graph.meaning l.self.graph.now).chosen (take l.self.base l.initial.memory)) l.self.base l.memory l.from l.number
