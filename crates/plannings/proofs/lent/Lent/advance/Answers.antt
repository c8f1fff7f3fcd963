use Rattle.std.proofs.Common.{Ok, sym, subst, rules}
use Rattle.rows.specs.Held.{circuit_in}
use Rattle.rows.proofs.HeldCircuit.{circuit_length}
use Rattle.rows.proofs.Rooms.{room_after}
use Rattle.flows.specs.Stacks.{Stack}
use Rattle.routes.specs.Plans.{ones}
use Rattle.routes.specs.Residuals.{Closed}
use Rattle.rows.specs.Held.{circuit_of, bars_of}
use Rattle.flows.specs.Kept.{flow_in}
use Rattle.flows.specs.Found.{marks}
use Rattle.graphs.proofs.ResidualOutcomes.{residual_decides}
use Rattle.runs.specs.declared.calls.Call.TheVariants as call
use Rattle.runs.specs.declared.calls.Answer.TheVariants as answer
use Rattle.runs.specs.declared.calls.Stepped.TheVariants as stepped
use Rattle.plannings.specs.Ready.{bare}
use Rattle.plannings.proofs.Stepping.{ready_searched, unblocked_searched, turned_searched, few_routes, grown_kept, grown_turned, closed_kept, closed_turned}
use Rattle.plannings.proofs.lent.Lent.advance.Goals as goal

pub grow-requires : goal.grow-requires
grow-requires c =
    let p = c.args.self.now in
    let h = c.requires.ready in
    let found = c.in-Some.ensures in
    let t = c.unit_path.new.rows in
    let ready = ready_searched p.rows t found.same found.searched.rows.front p.kept h c.args.from c.requires.opened in
    record {
      ordered = ready.ordered;
      unblocked = unblocked_searched p.rows t found.same found.searched.rows.front p.kept h c.args.from c.requires.opened c.requires.unblocked;
      flows = ready.flows;
      stack = subst (λ n. Stack n t.memory.now c.in-Some.found.length) (sym found.same.wires)
          ((residual_decides (circuit_in p.rows) p.rows.wires p.rows.memory.now t.memory.now h.ordered (circuit_length p.rows.memory.now p.rows.wires h.room) h.loaded).0
          c.in-Some.found.length found.searched);
    }

pub overflow_add-self : goal.overflow_add-self
overflow_add-self c =
    let p = c.args.self.now in
    let few = (few_routes p.rows.wires p.rows.memory.now p.kept c.requires.ready c.requires.unblocked).1 in
    search rules

pub prepare-requires : goal.prepare-requires
prepare-requires c =
    let p = c.args.self.now in
    let none = c.in-None.ensures in
    let t = c.unit_path.new.rows in
    let ready = ready_searched p.rows t none.same none.searched.rows.front p.kept c.requires.ready c.args.from c.requires.opened in
    let u = unblocked_searched p.rows t none.same none.searched.rows.front p.kept c.requires.ready c.args.from c.requires.opened c.requires.unblocked in
    record { ordered = ready.ordered; flows = ready.flows; few = (few_routes t.wires t.memory.now p.kept ready u).0 }

pub returns-in-Some : goal.returns-in-Some
returns-in-Some c =
    let p = c.args.self.now in
    let found = c.in-Some.ensures in
    let t = c.unit_path.new.rows in
    let r = c.grow.new.rows in
    let ready = ready_searched p.rows t found.same found.searched.rows.front p.kept c.requires.ready c.args.from c.requires.opened in
    let u = unblocked_searched p.rows t found.same found.searched.rows.front p.kept c.requires.ready c.args.from c.requires.opened c.requires.unblocked in
    let d = turned_searched p.rows t found.same found.searched.rows.front p.kept c.requires.ready c.args.from c.requires.opened
    (bare call.Step (Ok (answer.Stepped stepped.Grown))) r (grown_kept p.kept c.in-Some.found.next) c.grow.ensures.same
    (grown_turned t.wires t.memory.now r.memory.now (room_after t r c.grow.ensures.same) p.kept ready c.args.from c.requires.opened u c.in-Some.found.length c.in-Some.found.next
    c.grow.ensures.memory) in
    record { rows = d.0; turned = d.1 }

pub returns-in-None : goal.returns-in-None
returns-in-None c =
    let p = c.args.self.now in
    let h = c.requires.ready in
    let none = c.in-None.ensures in
    let t = c.unit_path.new.rows in
    let r = c.prepare.new.rows in
    let ready = ready_searched p.rows t none.same none.searched.rows.front p.kept h c.args.from c.requires.opened in
    let closed = subst (λ n. Closed (circuit_of t.memory.now n) (bars_of t.memory.now n) ones (flow_in t.memory.now n) (marks t.memory.now n)) (sym none.same.wires)
    ((residual_decides (circuit_in p.rows) p.rows.wires p.rows.memory.now t.memory.now h.ordered (circuit_length p.rows.memory.now p.rows.wires h.room) h.loaded).1 none.searched) in
    let d = turned_searched p.rows t none.same none.searched.rows.front p.kept h c.args.from c.requires.opened
    (bare call.Step (Ok (answer.Stepped stepped.Closed))) r (closed_kept p.kept) c.prepare.ensures.same
    (closed_turned t.wires t.memory.now r.memory.now (room_after t r c.prepare.ensures.same) p.kept ready c.args.from c.requires.opened closed c.prepare.ensures.memory) in
    record { rows = d.0; turned = d.1 }
