use Rattle.routes.proofs.Jobs.{small_jobs}
use Rattle.routes.proofs.small_jobs.Goals as goal

pub returns : goal.returns
returns c = small_jobs
