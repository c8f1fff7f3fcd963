use Rattle.plannings.proofs.Telling.{ready, called}
use Rattle.plannings.proofs.planning.PlanningPlanner.unbar.Goals as goal

pub unbar-requires : goal.unbar-requires
unbar-requires c = ready c.args.self.now

pub returns : goal.returns
returns c = called (ready c.args.self.now) c.unbar.ensures
