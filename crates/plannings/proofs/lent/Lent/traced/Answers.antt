use Rattle.std.proofs.Common.{refl, subst₂, arith}
use Rattle.flows.specs.Kept.{flow_in}
use Rattle.flows.specs.Units.{Told}
use Rattle.plannings.specs.declared.kept.Phase.TheVariants as phase
use Rattle.plannings.proofs.Answering.{routes_fit, traceable, route_short, route_done}
use Rattle.plannings.proofs.lent.Lent.traced.Goals as goal

pub returns-then-out-self : goal.returns-then-out-self
returns-then-out-self c =
    let p = c.args.self.now in
    route_short p c.requires.ready c.args.out.now c.args.index phase.Closed c.requires.closed refl (omega arith) (omega arith)

pub trace_noted-requires : goal.trace_noted-requires
trace_noted-requires c =
    let p = c.args.self.now in
    let h = c.requires.ready in
    let k = routes_fit p h c.args.out.now c.requires.closed in
    rw (c.view.ensures.memory, c.view.ensures.wires) (record {
      ordered = h.ordered;
      flows = h.flows;
      few = omega (arith, h.routes, k);
      ready = traceable p h c.args.out.now c.requires.closed;
      some = omega (arith, h.routes);
      long = omega arith;
    })

pub returns : goal.returns
returns c =
    let p = c.args.self.now in
    let told = subst₂ (λ m n. Told (flow_in m n) c.args.index n c.trace_noted.result c.args.out.now c.trace_noted.new.out) c.view.ensures.memory c.view.ensures.wires c.trace_noted.ensures in
    route_done p c.requires.ready c.args.out.now c.args.index phase.Closed c.requires.closed refl (omega arith) (omega arith)
    c.trace_noted.result c.trace_noted.new.out told.short c.trace_noted.auto.out told.rest told.traced
