use Rattle.routes.specs.Residuals.{border}
use Rattle.flows.specs.Found.{marks}
use Rattle.flows.specs.Listing.{Listing}
use Rattle.flows.proofs.plan.write_plan.Given as goal

abbrev pub invariant-loop-w : goal.invariant-loop-w
invariant-loop-w l = Listing (border (marks l.rows.memory.now l.rows.wires)) l.w l.len l.initial.out l.out
