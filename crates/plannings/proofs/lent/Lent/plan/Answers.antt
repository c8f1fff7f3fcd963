use Rattle.std.proofs.Common.{subst₂, arith}
use Rattle.routes.specs.Residuals.{border}
use Rattle.flows.specs.Found.{marks}
use Rattle.flows.specs.Listing.{Listing}
use Rattle.plannings.proofs.Answering.{plan_done}
use Rattle.plannings.proofs.lent.Lent.plan.Goals as goal

pub returns : goal.returns
returns c =
    let p = c.args.self.now in
    let listed = subst₂ (λ m n. Listing (border (marks m n)) n c.write_plan.result c.args.out.now c.write_plan.new.out) c.view.ensures.memory c.view.ensures.wires c.write_plan.ensures in
    plan_done p c.requires c.args.out.now c.in-Closed.is (omega arith) c.write_plan.result c.write_plan.new.out c.write_plan.auto.out listed
