use Rattle.runs.proofs.Turns.{Going}
use Rattle.runs.proofs.run.run_all.Given as goal

abbrev pub invariant-loop-j : goal.invariant-loop-j
invariant-loop-j g l = Going g.P.Planner.circuit g.P.Planner.shows l.initial.planning l.calls l.initial.room l.room l.answers l.at l.j l.planning
