use Rattle.std.proofs.Common.{refl, arith}
use Rattle.plannings.specs.declared.kept.Phase.TheVariants as phase
use Rattle.plannings.proofs.Answering.{barred_short, route_short, route_done}
use Rattle.plannings.proofs.lent.Lent.copied.Goals as goal

pub returns-then-out-self : goal.returns-then-out-self
returns-then-out-self c =
    let p = c.args.self.now in
    route_short p c.requires.ready c.args.out.now c.args.index (phase.Blocked c.args.height) c.requires.blocked refl (omega arith) (omega arith)

pub returns : goal.returns
returns c =
    let p = c.args.self.now in
    route_done p c.requires.ready c.args.out.now c.args.index (phase.Blocked c.args.height) c.requires.blocked refl (omega arith) (omega arith)
    c.args.height c.copy_barred.new.out (barred_short p c.requires.ready c.args.out.now c.args.height c.requires.blocked)
    c.copy_barred.auto.out c.copy_barred.ensures.rest c.copy_barred.ensures.row
