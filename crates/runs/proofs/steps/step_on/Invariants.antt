use Rattle.runs.proofs.Stepping.{Growing}
use Rattle.runs.proofs.steps.step_on.Given as goal

abbrev pub invariant-loop-grown : goal.invariant-loop-grown
invariant-loop-grown g l = Growing g.P.Planner.circuit g.P.Planner.shows l.initial.planning l.grown l.planning
