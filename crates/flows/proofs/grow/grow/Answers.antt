use Rattle.std.proofs.Common.{rules, ◌≡◌, ◌+◌, ◌-◌, ◌/◌, ◌^◌, ◌<◌, sym, ap, ◌∙◌, subst, arith}
use Rattle.rows.specs.Held.{circuit_of, bars_of}
use Rattle.flows.specs.Kept.{flow_in, routes_in, Changed}
use Rattle.flows.specs.Stacks.{Pending, Pushed, Grown, stacked, begun_at}
use Rattle.rows.proofs.Rooms.{room_of}
use Rattle.flows.proofs.Grows.{end_ready, all_ready, begin_ready, grown}
use Rattle.flows.proofs.grow.grow.Goals as goal

pub end_one-requires-clause-few : goal.end_one-requires-clause-few
end_one-requires-clause-few c =
    (end_ready c.args.rows.now.wires c.args.height c.args.rows.now.memory.now (room_of c.args.rows.now)
    c.requires.ordered c.requires.flows c.requires.stack c.requires.unblocked c.stack_at-last.result c.stack_at-last.ensures).1

pub push_all-requires-clause-few : goal.push_all-requires-clause-few
push_all-requires-clause-few c =
    subst (λ n. routes_in c.end_one.new.rows.memory.now n + 2 ^ 22 < 2 ^ 32) (sym c.end_one.ensures.same.wires)
    (all_ready c.args.rows.now.wires c.args.height c.args.rows.now.memory.now (room_of c.args.rows.now)
    c.requires.ordered c.requires.flows c.requires.stack c.requires.unblocked c.stack_at-last.result c.stack_at-last.ensures
    c.end_one.new.rows.memory.now c.end_one.ensures.flow).1

pub push_all-requires-clause-pending : goal.push_all-requires-clause-pending
push_all-requires-clause-pending c =
    let m = c.end_one.new.rows.memory.now in
    subst (λ n. Pending (circuit_of m n) (bars_of m n) n c.args.height (stacked m n) (routes_in m n) (flow_in m n) (c.args.height - 1))
    (sym c.end_one.ensures.same.wires)
    (all_ready c.args.rows.now.wires c.args.height c.args.rows.now.memory.now (room_of c.args.rows.now)
    c.requires.ordered c.requires.flows c.requires.stack c.requires.unblocked c.stack_at-last.result c.stack_at-last.ensures
    m c.end_one.ensures.flow).2

pub begin_one-requires-clause-wire : goal.begin_one-requires-clause-wire
begin_one-requires-clause-wire c =
    let wires : c.push_all.new.rows.wires ≡ c.args.rows.now.wires = c.push_all.ensures.same.wires ∙ c.end_one.ensures.same.wires in
    omega (
      arith,
      wires,
      (begin_ready c.args.rows.now.wires c.args.height c.args.rows.now.memory.now (room_of c.args.rows.now)
          c.requires.ordered c.requires.flows c.requires.stack c.requires.unblocked c.stack_at-last.result c.stack_at-last.ensures
          c.end_one.new.rows.memory.now c.end_one.ensures.flow c.push_all.new.rows.memory.now
          (subst (λ n. Pushed n c.args.height c.end_one.new.rows.memory.now c.push_all.new.rows.memory.now 0) c.end_one.ensures.same.wires c.push_all.ensures.memory)
          c.stack_at-first.result (c.stack_at-first.ensures ∙ ap (λ n. stacked c.push_all.new.rows.memory.now n 0) wires)).0,
    )

pub begin_one-requires-clause-few : goal.begin_one-requires-clause-few
begin_one-requires-clause-few c =
    let wires : c.push_all.new.rows.wires ≡ c.args.rows.now.wires = c.push_all.ensures.same.wires ∙ c.end_one.ensures.same.wires in
    subst (λ n. (flow_in c.push_all.new.rows.memory.now n).start (c.stack_at-first.result / 2) + 1 < 2 ^ 32) (sym wires)
    (begin_ready c.args.rows.now.wires c.args.height c.args.rows.now.memory.now (room_of c.args.rows.now)
    c.requires.ordered c.requires.flows c.requires.stack c.requires.unblocked c.stack_at-last.result c.stack_at-last.ensures
    c.end_one.new.rows.memory.now c.end_one.ensures.flow c.push_all.new.rows.memory.now
    (subst (λ n. Pushed n c.args.height c.end_one.new.rows.memory.now c.push_all.new.rows.memory.now 0) c.end_one.ensures.same.wires c.push_all.ensures.memory)
    c.stack_at-first.result (c.stack_at-first.ensures ∙ ap (λ n. stacked c.push_all.new.rows.memory.now n 0) wires)).1

pub returns-clause-memory : goal.returns-clause-memory
returns-clause-memory c =
    let wires : c.push_all.new.rows.wires ≡ c.args.rows.now.wires = c.push_all.ensures.same.wires ∙ c.end_one.ensures.same.wires in
    subst (Grown c.args.rows.now.wires c.args.height c.args.rows.now.memory.now)
    (search (rules, c.begin_one.ensures.same.place ∙ c.push_all.ensures.same.place ∙ c.end_one.ensures.same.place))
    (grown c.args.rows.now.wires c.args.height c.args.rows.now.memory.now (room_of c.args.rows.now)
    c.requires.ordered c.requires.flows c.requires.stack c.requires.unblocked c.stack_at-last.result c.stack_at-last.ensures
    c.end_one.new.rows.memory.now c.end_one.ensures.flow c.push_all.new.rows.memory.now
    (subst (λ n. Pushed n c.args.height c.end_one.new.rows.memory.now c.push_all.new.rows.memory.now 0) c.end_one.ensures.same.wires c.push_all.ensures.memory)
    c.stack_at-first.result (c.stack_at-first.ensures ∙ ap (λ n. stacked c.push_all.new.rows.memory.now n 0) wires)
    c.begin_one.new.rows.memory.now
    (subst (λ n. Changed n c.push_all.new.rows.memory.now (begun_at (c.stack_at-first.result / 2) (flow_in c.push_all.new.rows.memory.now n)) c.begin_one.new.rows.memory.now) wires c.begin_one.ensures.flow))
