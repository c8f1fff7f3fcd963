use Rattle.plannings.proofs.Telling.{ready, called}
use Rattle.plannings.proofs.planning.PlanningPlanner.step.Goals as goal

pub step-requires : goal.step-requires
step-requires c = ready c.args.self.now

pub returns : goal.returns
returns c = called (ready c.args.self.now) c.step.ensures
