use Rattle.std.proofs.Common.{length}
use Rattle.runs.specs.Calls.{answered_by}
use Rattle.runs.specs.declared.calls.Answer.TheVariants as answer
use Rattle.plannings.proofs.Telling.{ready, route_asked}
use Rattle.plannings.proofs.planning.PlanningPlanner.route.Goals as goal

pub route-requires : goal.route-requires
route-requires c = ready c.args.self.now

pub returns : goal.returns
returns c = route_asked c.args.self.now.inner (ready c.args.self.now) c.args.out.now (answered_by answer.Routed c.route.result) c.route.new.out c.args.index (length c.args.out.now) c.route.ensures
