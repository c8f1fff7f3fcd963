use Rattle.circuits.specs.Levels.{rules}
use Rattle.circuits.proofs.Runs.{Going}
use Rattle.circuits.proofs.levels.run.Given as goal

abbrev pub invariant-loop-rank : goal.invariant-loop-rank
invariant-loop-rank g l =
    Going (g.C.Circuit.meaning l.circuit).makings (rules (g.S.Growth.tables l.scheme) g.S.Scheme.LIMIT g.S.Scheme.FRESH) l.plan l.initial.memory l.memory l.rank l.due
