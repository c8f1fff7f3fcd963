use Rattle.std.proofs.Common.{◌+◌, ◌∙◌, subst, sym, arith}
use Rattle.routes.specs.Routes.{at}
use Rattle.rows.specs.Rows.{Between}
use Rattle.rows.specs.Held.{circuit_in}
use Rattle.rows.specs.Fed.{fed_below}
use Rattle.rows.specs.Loading.{Passed, with_use, Counted, Countable}
use Rattle.rows.proofs.HeldCircuit.{circuit_length}
use Rattle.rows.proofs.Loadings.{countable, counted_same, next_fed, first_few, second_few}
use Rattle.rows.proofs.Rooms.{room_of, same_then, only_next, circuit_kept}
use Rattle.rows.proofs.rows.Rows.count_wires.Goals as goal

pub count_use-requires : goal.count_use-requires
count_use-requires c =
    let s = c.args.self.now in
    let t = c.loop-wire.self in
    let m = s.memory.now in
    let n = s.wires in
    let w = c.loop-wire.wire in
    let i = c.loop-wire.invariant in
    let ci = circuit_in s in
    let r = c.passed-first.result in
    let p : Passed (at ci w) r.0 r.1 = subst (λ x. Passed (at x w) r.0 r.1) (circuit_kept (Between 5 5) s t i.0 i.1 (λ r h f. omega (arith, f.0))) c.passed-first.ensures in
    subst (λ k. Countable k t.memory.now r.0) (sym i.0.wires)
    (countable n t.memory.now (fed_below ci w) r.0 i.2 (first_few ci w r.0 r.1 p n (circuit_length m n (room_of s)) c.loop-wire-test.true s.few c.requires.ordered))

pub count_use-requires-in-loop-wire : goal.count_use-requires-in-loop-wire
count_use-requires-in-loop-wire c =
    let s = c.args.self.now in
    let t = c.loop-wire.self in
    let u = c.count_use.new.self in
    let m = s.memory.now in
    let n = s.wires in
    let w = c.loop-wire.wire in
    let i = c.loop-wire.invariant in
    let ci = circuit_in s in
    let r = c.passed-first.result in
    let L = fed_below ci w in
    let p : Passed (at ci w) r.0 r.1 = subst (λ x. Passed (at x w) r.0 r.1) (circuit_kept (Between 5 5) s t i.0 i.1 (λ r h f. omega (arith, f.0))) c.passed-first.ensures in
    let first : Counted n u.memory.now (with_use L r.0 w) = subst (λ k. Counted k t.memory.now L → Counted k u.memory.now (with_use L r.0 w)) i.0.wires (c.count_use.ensures.counted L w) i.2 in
    subst (λ k. Countable k u.memory.now r.1) (sym (c.count_use.ensures.same.wires ∙ i.0.wires))
    (countable n u.memory.now (with_use L r.0 w) r.1 first (second_few ci w r.0 r.1 p n (circuit_length m n (room_of s)) c.loop-wire-test.true s.few c.requires.ordered))

pub loop-wire-preserved : goal.loop-wire-preserved
loop-wire-preserved c =
    let s = c.args.self.now in
    let t = c.loop-wire.self in
    let u = c.count_use.new.self in
    let v = c.count_use-in-loop-wire.new.self in
    let n = s.wires in
    let w = c.loop-wire.wire in
    let i = c.loop-wire.invariant in
    let ci = circuit_in s in
    let r = c.passed-first.result in
    let L = fed_below ci w in
    let M = with_use L r.0 w in
    let N = with_use M r.1 w in
    let p : Passed (at ci w) r.0 r.1 = subst (λ x. Passed (at x w) r.0 r.1) (circuit_kept (Between 5 5) s t i.0 i.1 (λ r h f. omega (arith, f.0))) c.passed-first.ensures in
    let same = same_then s t u i.0 c.count_use.ensures.same in
    let first = subst (λ k. Counted k t.memory.now L → Counted k u.memory.now M) i.0.wires (c.count_use.ensures.counted L w) in
    let second = subst (λ k. Counted k u.memory.now M → Counted k v.memory.now N) same.wires (c.count_use-in-loop-wire.ensures.counted M w) in (
      same_then s u v same c.count_use-in-loop-wire.ensures.same,
      only_next (Between 5 5) s u v same (only_next (Between 5 5) s t u i.0 i.1 c.count_use.ensures.rest) c.count_use-in-loop-wire.ensures.rest,
      counted_same n v.memory.now N (fed_below ci (w + 1)) (next_fed ci w r.0 r.1 p) (second (first i.2)),
    )
