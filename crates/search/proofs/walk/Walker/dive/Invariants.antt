use Rattle.std.proofs.Common.{◌≡◌, ◌+◌, ◌<◌, take}
use Rattle.search.specs.Rows.{mark, stacked}
use Rattle.search.specs.Walks.{On}
use Rattle.search.proofs.Totals.{ahead}
use Rattle.search.proofs.walk.Walker.dive.Given as goal

abbrev pub invariant-loop-height : goal.invariant-loop-height
invariant-loop-height g l =
    On (g.G.Graph.meaning l.self.graph.now) l.self.base l.self.count (take l.self.base l.fn.memory) l.fn.memory l.memory l.height
    × (0 < mark l.self.base l.memory l.place)
    × (stacked l.self.base l.self.count l.memory 0 ≡ l.place)

abbrev pub decreases-loop-height : goal.decreases-loop-height
decreases-loop-height g l =
    ahead ((g.G.Graph.meaning l.self.graph.now).steps (take l.self.base l.fn.memory)) l.self.base l.self.count l.memory + l.height
