use Rattle.std.proofs.Common.{◌≡◌, ◌+◌, ap, ◌∙◌, subst, arith}
use Rattle.rows.specs.Rows.{written}
use Rattle.flows.specs.Kept.{flow_in}
use Rattle.flows.specs.Numbers.{Marked}
use Rattle.rows.proofs.Rooms.{room_after, same_then}
use Rattle.flows.proofs.Units.{sum_more}
use Rattle.flows.proofs.Endings.{ended_more, count_is, total_fits}
use Rattle.flows.proofs.number.number_ends.Goals as goal

pub overflow_add-next : goal.overflow_add-next
overflow_add-next c =
    omega (
      arith,
      c.requires.few,
      c.args.rows.now.few,
      total_fits c.args.rows.now c.loop-w.rows c.loop-w.invariant.2 c.loop-w.w c.loop-w.total c.get.result c.loop-w-test.true
          c.loop-w.invariant.0 c.get.ensures c.requires.ordered c.requires.flows c.loop-w.invariant.1,
    )

pub mark_ends-requires-clause-within : goal.mark_ends-requires-clause-within
mark_ends-requires-clause-within c =
    omega (
      arith,
      c.requires.few,
      c.put.ensures.same.wires,
      c.loop-w.invariant.2.wires,
      total_fits c.args.rows.now c.loop-w.rows c.loop-w.invariant.2 c.loop-w.w c.loop-w.total c.get.result c.loop-w-test.true
          c.loop-w.invariant.0 c.get.ensures c.requires.ordered c.requires.flows c.loop-w.invariant.1,
    )

pub loop-w-preserved : goal.loop-w-preserved
loop-w-preserved c =
    let s = c.args.rows.now in
    let t = c.loop-w.rows in
    let u = c.put.new.self in
    let same = c.loop-w.invariant.2 in
    let then = same_then s t u same c.put.ensures.same in
    let ended = c.loop-w.invariant.0 in
    let ec : c.get.result ≡ (flow_in s.memory.now s.wires).finish c.loop-w.w =
    count_is s t same c.loop-w.w c.loop-w.total c.get.result c.loop-w-test.true ended c.get.ensures in (
      ended_more s.wires s.memory.now t.memory.now c.mark_ends.new.rows.memory.now c.loop-w.w c.loop-w.total c.get.result (room_after s t same)
          c.loop-w-test.true ended c.loop-w.invariant.1 ec
          (subst (λ m. Marked s.wires m c.mark_ends.new.rows.memory.now c.loop-w.total (c.loop-w.total + c.get.result) c.loop-w.w)
          (c.put.ensures.memory ∙ ap (λ n. written t.memory.now n 19 c.loop-w.w c.loop-w.total) same.wires)
          (subst (λ n. Marked n u.memory.now c.mark_ends.new.rows.memory.now c.loop-w.total (c.loop-w.total + c.get.result) c.loop-w.w) then.wires c.mark_ends.ensures.memory)),
      omega (arith, c.loop-w.invariant.1, ec, sum_more (flow_in s.memory.now s.wires).finish c.loop-w.w),
      same_then s u c.mark_ends.new.rows then c.mark_ends.ensures.same,
    )
