use Rattle.std.proofs.Common.{Ok, sym, subst, arith}
use Rattle.routes.specs.Plans.{Blocked}
use Rattle.rows.specs.Held.{circuit_of, circuit_in, bars_of}
use Rattle.rows.proofs.HeldCircuit.{circuit_length}
use Rattle.rows.proofs.Rooms.{room_after}
use Rattle.graphs.proofs.BarredOutcomes.{barred_decides}
use Rattle.runs.specs.declared.calls.Call.TheVariants as call
use Rattle.runs.specs.declared.calls.Answer.TheVariants as answer
use Rattle.plannings.specs.Ready.{bare}
use Rattle.plannings.proofs.Stepping.{circuit_front, ready_searched, turned_searched, blocked_turned}
use Rattle.plannings.proofs.lent.Lent.step.Goals as goal

pub advance-requires-in-None-clause-ready : goal.advance-requires-in-None-clause-ready
advance-requires-in-None-clause-ready c =
    let none = c.in-None.ensures in
    ready_searched c.args.self.now.rows c.barred_path.new.rows none.same none.searched.rows.front c.args.self.now.kept c.requires c.in-Open.from c.in-Open.is

pub advance-requires-in-None-clause-unblocked : goal.advance-requires-in-None-clause-unblocked
advance-requires-in-None-clause-unblocked c =
    let p = c.args.self.now in
    let none = c.in-None.ensures in
    let t = c.barred_path.new.rows in
    let h = c.requires in
    subst (λ n. Blocked (circuit_of t.memory.now n) (bars_of t.memory.now n) → ⊥) (sym none.same.wires)
    (subst (λ d. Blocked d (bars_of t.memory.now p.rows.wires) → ⊥)
    (sym (circuit_front p.rows.wires p.rows.memory.now t.memory.now none.searched.rows.front (room_after p.rows t none.same) p.kept h c.in-Open.from c.in-Open.is))
    ((barred_decides (circuit_in p.rows) p.rows.wires p.rows.memory.now t.memory.now h.ordered (circuit_length p.rows.memory.now p.rows.wires h.room) h.loaded).1 none.searched))

pub returns-in-Some : goal.returns-in-Some
returns-in-Some c =
    let p = c.args.self.now in
    let found = c.in-Some.ensures in
    let t = c.barred_path.new.rows in
    record {
      rows = found.same;
      turned = blocked_turned p.rows.wires p.rows.memory.now t.memory.now (room_after p.rows t found.same) p.kept c.requires c.in-Open.from c.in-Open.is (omega arith)
          c.in-Some.found.length found.searched;
    }

pub returns-in-None : goal.returns-in-None
returns-in-None c =
    let p = c.args.self.now in
    let none = c.in-None.ensures in
    let on = c.advance-in-None.ensures in
    let d = turned_searched p.rows c.barred_path.new.rows none.same none.searched.rows.front p.kept c.requires c.in-Open.from c.in-Open.is
    (bare call.Step (Ok (answer.Stepped c.advance-in-None.result))) c.advance-in-None.new.self.rows c.advance-in-None.new.self.kept on.rows on.turned in
    record { rows = d.0; turned = d.1 }
