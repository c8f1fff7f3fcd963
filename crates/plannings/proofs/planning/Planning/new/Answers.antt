use Rattle.std.proofs.Common.{sym, subst}
use Rattle.routes.proofs.Wires.{lawful_is_ordered}
use Rattle.rows.specs.Fed.{FreshLoad}
use Rattle.rows.proofs.Rooms.{room_of}
use Rattle.plannings.specs.Ready.{Ready, New}
use Rattle.plannings.proofs.Beginning.{ready_none, ready_fresh, new_fresh}
use Rattle.plannings.proofs.planning.Planning.new.Goals as goal

pub invariant_of-result : goal.invariant_of-result
invariant_of-result g c = record { ready = ∣ subst (λ q. Ready 0 c.args.memory.now q) (sym c.opened-kept.ensures) (ready_none c.args.memory.now) ∣₁ }

pub invariant_of-result-2 : goal.invariant_of-result-2
invariant_of-result-2 g c =
    let t = g.C.Circuit.meaning c.args.circuit.now in
    let lawful = g.C.Circuit.laws c.args.circuit.now in
    let s = c.load.new.self in
    record {
      ready = ∣ subst (λ q. Ready s.wires s.memory.now q) (sym c.opened-kept.ensures)
          (ready_fresh t.makings s.wires s.memory.now (room_of s) (lawful_is_ordered t lawful)
          (subst (λ n. FreshLoad t.makings n s.memory.now) (sym c.load.ensures.same.wires) c.load.ensures.fresh)) ∣₁;
    }

pub returns-clause-made : goal.returns-clause-made
returns-clause-made g c l =
    let t = g.C.Circuit.meaning c.args.circuit.now in
    let s = c.load.new.self in
    subst (λ q. New t.makings s.wires s.memory.now q) (sym c.opened-kept.ensures)
    (new_fresh t.makings s.wires s.memory.now (room_of s) (lawful_is_ordered t (g.C.Circuit.laws c.args.circuit.now))
    (subst (λ n. FreshLoad t.makings n s.memory.now) (sym c.load.ensures.same.wires) c.load.ensures.fresh))
