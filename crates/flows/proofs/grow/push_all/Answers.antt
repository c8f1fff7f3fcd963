use Rattle.std.proofs.Common.{◌-◌, sym, ap, subst, arith}
use Rattle.routes.specs.Routes.{Ordered}
use Rattle.rows.specs.Held.{circuit_of}
use Rattle.flows.specs.Kept.{routes_in}
use Rattle.flows.specs.Stacks.{Pushed}
use Rattle.rows.proofs.Rooms.{same_then}
use Rattle.flows.proofs.Grows.{Ready, push_ready, push_done}
use Rattle.flows.proofs.grow.push_all.Goals as goal

-- what is known before a step is pushed
module _ (c : goal.After-push-arg-1) where
  pub ordered : Ordered (circuit_of c.args.rows.now.memory.now c.loop-i.rows.wires)
  ordered = subst (λ n. Ordered (circuit_of c.args.rows.now.memory.now n)) (sym c.loop-i.invariant.1.wires) c.requires.ordered

  pub ready : Ready c.loop-i.rows.wires c.args.height c.args.rows.now.memory.now c.loop-i.rows.memory.now ordered c.stack_at-a.result c.stack_at-b.result
  ready =
      push_ready c.loop-i.rows.wires c.args.height c.args.rows.now.memory.now c.loop-i.rows.memory.now ordered
      (omega (arith, c.requires.few, ap (routes_in c.args.rows.now.memory.now) c.loop-i.invariant.1.wires)) c.loop-i.rows.few
      (c.loop-i.i - 1) c.stack_at-a.result c.stack_at-b.result c.loop-i.invariant.0 (omega (arith, c.loop-i-test.true)) (c.stack_at-a.ensures, c.stack_at-b.ensures)

pub push-requires-clause-from : goal.push-requires-clause-from
push-requires-clause-from c = (ready c).0

pub push-requires-clause-to : goal.push-requires-clause-to
push-requires-clause-to c = (ready c).1

pub push-requires-clause-step : goal.push-requires-clause-step
push-requires-clause-step c = (ready c).3

pub loop-i-preserved : goal.loop-i-preserved
loop-i-preserved c = (
  subst (λ n. Pushed n c.args.height c.args.rows.now.memory.now c.push.new.rows.memory.now (c.loop-i.i - 1 - 1)) (sym c.push.ensures.same.wires)
      (push_done c.loop-i.rows.wires c.args.height c.args.rows.now.memory.now c.loop-i.rows.memory.now
      (subst (λ n. Ordered (circuit_of c.args.rows.now.memory.now n)) (sym c.loop-i.invariant.1.wires) c.requires.ordered)
      (c.loop-i.i - 1) c.stack_at-a.result c.stack_at-b.result c.loop-i.invariant.0 (omega (arith, c.loop-i-test.true)) (c.stack_at-a.ensures, c.stack_at-b.ensures)
      c.push.new.rows.memory.now c.push.ensures.flow),
  same_then c.args.rows.now c.loop-i.rows c.push.new.rows c.loop-i.invariant.1 c.push.ensures.same,
)
