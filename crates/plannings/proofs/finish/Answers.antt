use Rattle.std.proofs.Common.{◌+◌, sym, ap, subst}
use Rattle.runs.specs.Steps.{Ended}
use Rattle.runs.specs.Told.{Told, DoesTold}
use Rattle.plannings.proofs.Planned.{event, finished}
use Rattle.plannings.proofs.finish.Goals as goal

pub returns : goal.returns
returns g c ordered wires new =
    let P = g.P.Planner in
    let first = c.args.planning.now in
    let last = c.step_on.new.planning in
    let before = c.args.room.now in
    let after = c.plan.new.out in
    let on = c.step_on.ensures in
    finished (P.circuit first) ordered before c.plan.result after (P.shows first) (P.shows last) c.step_on.result new
    (subst (λ k. Ended k c.step_on.result c.step_on.result.last) (ap (λ n. n + 1) (sym wires)) on.ended) on.came
    (subst (λ x. (t : Told) → P.shows last t → DoesTold x t (event (P.circuit first) ordered before c.plan.result after) t) on.same c.plan.ensures)
