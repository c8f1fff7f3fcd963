use Rattle.std.proofs.Common.{◌+◌, length, sym, ◌∙◌, subst₂, arith}
use Rattle.routes.specs.Residuals.{border}
use Rattle.flows.specs.Found.{marks}
use Rattle.flows.specs.Listing.{Listing}
use Rattle.flows.proofs.Listing.{listing_left, listing_taken, listing_room}
use Rattle.flows.proofs.plan.write_plan.Goals as goal
use Rattle.flows.proofs.plan.write_plan.Goals.{then-on_border, else-on_border}

pub bounds-out-len : goal.bounds-out-len
bounds-out-len c =
    omega (
      arith,
      listing_room (border (marks c.args.rows.now.memory.now c.args.rows.now.wires)) c.loop-w.w c.loop-w.len c.args.out.now c.loop-w.out c.loop-w.invariant
          (sym c.on_border.ensures ∙ c.if-on_border.true) c.args.rows.now.wires (length c.args.out.now) c.loop-w-test.true c.requires.long,
      c.loop-w.auto.out,
    )

pub loop-w-preserved : goal.loop-w-preserved
loop-w-preserved c =
    elim c.if-on_border.branch [
      | then-on_border w ↦
          subst₂ (λ len out. Listing (border (marks c.args.rows.now.memory.now c.args.rows.now.wires)) (c.loop-w.w + 1) len c.args.out.now out) (sym w.len-is) (sym w.out-is)
          (listing_taken (border (marks c.args.rows.now.memory.now c.args.rows.now.wires)) c.loop-w.w c.loop-w.len c.args.out.now c.loop-w.out c.loop-w.invariant
          (sym c.on_border.ensures ∙ w.if-on_border.true)
          (omega (
            arith,
            listing_room (border (marks c.args.rows.now.memory.now c.args.rows.now.wires)) c.loop-w.w c.loop-w.len c.args.out.now c.loop-w.out c.loop-w.invariant
                (sym c.on_border.ensures ∙ w.if-on_border.true) c.args.rows.now.wires (length c.args.out.now) c.loop-w-test.true c.requires.long,
            c.loop-w.auto.out,
          )))
      | else-on_border w ↦
          subst₂ (λ len out. Listing (border (marks c.args.rows.now.memory.now c.args.rows.now.wires)) (c.loop-w.w + 1) len c.args.out.now out) (sym w.len-is) (sym w.out-is)
          (listing_left (border (marks c.args.rows.now.memory.now c.args.rows.now.wires)) c.loop-w.w c.loop-w.len c.args.out.now c.loop-w.out c.loop-w.invariant
          (sym c.on_border.ensures ∙ w.if-on_border.false))
    ]
