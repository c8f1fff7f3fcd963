use Rattle.std.proofs.Common.{rules, subst, arith}
use Rattle.runs.proofs.Stepping.{Growing, one_more, ends, all_grown}
use Rattle.runs.proofs.steps.step_on.Goals as goal

pub returns-in_default : goal.returns-in_default
returns-in_default g c = ends _ _ _ _ _ c.loop-grown.invariant _ c.step.new.self (search rules) c.args.most (omega arith) (search rules)

pub returns-in_default-2 : goal.returns-in_default-2
returns-in_default-2 g c = ends _ _ _ _ _ c.loop-grown.invariant _ c.step.new.self (search rules) c.args.most (omega arith) (search rules)

pub loop-grown-preserved : goal.loop-grown-preserved
loop-grown-preserved g c = one_more _ _ _ _ _ c.loop-grown.invariant c.step.result c.step.new.self c.step.ensures (search rules)

pub returns : goal.returns
returns g c =
    let P = g.P.Planner in
    all_grown _ _ _ _ _
    (subst (λ k. Growing P.circuit P.shows c.args.planning.now k c.loop-grown.planning) (omega arith) c.loop-grown.invariant)
