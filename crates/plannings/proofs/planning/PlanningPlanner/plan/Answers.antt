use Rattle.std.proofs.Common.{length}
use Rattle.runs.specs.Calls.{answered_by}
use Rattle.runs.specs.declared.calls.Answer.TheVariants as answer
use Rattle.plannings.proofs.Telling.{ready, plan_asked}
use Rattle.plannings.proofs.planning.PlanningPlanner.plan.Goals as goal

pub plan-requires : goal.plan-requires
plan-requires c = ready c.args.self.now

pub returns : goal.returns
returns c = plan_asked c.args.self.now.inner (ready c.args.self.now) c.args.out.now (answered_by answer.Planned c.plan.result) c.plan.new.out (length c.args.out.now) c.plan.ensures
