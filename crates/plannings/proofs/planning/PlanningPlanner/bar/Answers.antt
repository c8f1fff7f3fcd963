use Rattle.plannings.proofs.Telling.{ready, called}
use Rattle.plannings.proofs.planning.PlanningPlanner.bar.Goals as goal

pub bar-requires : goal.bar-requires
bar-requires c = ready c.args.self.now

pub returns : goal.returns
returns c = called (ready c.args.self.now) c.bar.ensures
