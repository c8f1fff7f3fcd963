use Rattle.flows.proofs.Residual.{residual_steps, residual_length, residual_inside}
use Rattle.flows.proofs.residual_steps.Goals as goal

pub returns : goal.returns
returns c = (residual_steps, residual_length, residual_inside)
