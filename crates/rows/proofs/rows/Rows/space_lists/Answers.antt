use Rattle.std.proofs.Common.{◌≡◌, ◌+◌, sym, refl, ap, ◌∙◌, subst, arith}
use Rattle.rows.specs.Rows.{cell, written, Only}
use Rattle.rows.specs.Held.{circuit_of}
use Rattle.rows.specs.Fed.{fed_below}
use Rattle.rows.specs.Loading.{Spaced, ListRow}
use Rattle.rows.proofs.Cells.{only_then}
use Rattle.rows.proofs.Feeding.{below_few}
use Rattle.rows.proofs.Placing.{spaced_more, spaced_rest, offset_more}
use Rattle.rows.proofs.Rooms.{room_after, same_then, written_next}
use Rattle.rows.proofs.rows.Rows.space_lists.Goals as goal

pub overflow_add-total : goal.overflow_add-total
overflow_add-total c =
    let s = c.args.self.now in
    let n = s.wires in
    let A = fed_below (circuit_of s.memory.now n) n in
    let k = c.loop-wire.wire in
    let i = c.loop-wire.invariant in
    let count : c.get-count.result ≡ cell c.loop-wire.self.memory.now n 5 k = c.get-count.ensures ∙ ap (λ j. cell c.loop-wire.self.memory.now j 5 k) i.0.wires in
    omega (arith, offset_more n c.loop-wire.self.memory.now (room_after s c.loop-wire.self i.0) A k c.loop-wire.total c.loop-wire-test.true i.2 i.3, count, below_few (circuit_of s.memory.now n) (k + 1) n, s.few)

pub loop-wire-preserved : goal.loop-wire-preserved
loop-wire-preserved c =
    let s = c.args.self.now in
    let m = s.memory.now in
    let n = s.wires in
    let A = fed_below (circuit_of m n) n in
    let x = c.loop-wire.self.memory.now in
    let y = c.put-in-loop-wire.new.self.memory.now in
    let k = c.loop-wire.wire in
    let t = c.loop-wire.total in
    let i = c.loop-wire.invariant in
    let room = room_after s c.loop-wire.self i.0 in
    let count : c.get-count.result ≡ cell x n 5 k = c.get-count.ensures ∙ ap (λ j. cell x j 5 k) i.0.wires in
    let first : c.put.new.self.memory.now ≡ written x n 5 k t = written_next n c.loop-wire.self c.put.new.self.memory.now x 5 k t i.0.wires refl c.put.ensures.memory in
    let after : y ≡ written (written x n 5 k t) n 13 k t =
    written_next n c.put.new.self y (written x n 5 k t) 13 k t (c.put.ensures.same.wires ∙ i.0.wires) first c.put-in-loop-wire.ensures.memory in (
      same_then s c.put.new.self c.put-in-loop-wire.new.self (same_then s c.loop-wire.self c.put.new.self i.0 c.put.ensures.same) c.put-in-loop-wire.ensures.same,
      subst (Only ListRow n m) (sym after) (only_then ListRow n m x (written (written x n 5 k t) n 13 k t) i.1 (spaced_rest n x room A k t c.loop-wire-test.true i.2 i.3)),
      subst (λ z. Spaced n z A (k + 1)) (sym after) (spaced_more n x room A k t c.loop-wire-test.true i.2 i.3),
      ap (λ z. t + z) count ∙ offset_more n x room A k t c.loop-wire-test.true i.2 i.3,
    )
