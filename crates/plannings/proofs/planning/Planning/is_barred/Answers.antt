use Rattle.plannings.proofs.Telling.{ready}
use Rattle.plannings.proofs.Tells.{tells_is_barred}
use Rattle.plannings.proofs.planning.Planning.is_barred.Goals as goal

pub returns : goal.returns
returns c = tells_is_barred c.args.self.now.inner (ready c.args.self.now) c.args.rank c.is_barred.result c.is_barred.ensures
