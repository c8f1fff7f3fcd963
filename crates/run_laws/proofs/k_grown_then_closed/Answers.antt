use Rattle.run_laws.proofs.Consequences.{closed_after_k, k_grown_then_closed}
use Rattle.run_laws.proofs.k_grown_then_closed.Goals as goal

pub returns : goal.returns
returns c = record { closed = closed_after_k; grown = k_grown_then_closed }
