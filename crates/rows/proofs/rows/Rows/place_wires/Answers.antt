use Rattle.std.proofs.Common.{◌+◌, ◌∙◌, subst, sym}
use Rattle.routes.specs.Routes.{at}
use Rattle.rows.specs.Held.{circuit_in}
use Rattle.rows.specs.Fed.{fed, fed_below}
use Rattle.rows.specs.Loading.{Passed, with_use, Placeable, PlacedRow, FitsIn, Filled}
use Rattle.rows.proofs.HeldCircuit.{circuit_length}
use Rattle.rows.proofs.Loadings.{next_fed}
use Rattle.rows.proofs.Placing.{first_fits, second_fits, first_placeable, second_placeable, filled_same, placed_circuit}
use Rattle.rows.proofs.Rooms.{room_of, same_then, only_next, circuit_kept}
use Rattle.rows.proofs.rows.Rows.place_wires.Goals as goal

pub place_use-requires : goal.place_use-requires
place_use-requires c =
    let s = c.args.self.now in
    let t = c.loop-wire.self in
    let m = s.memory.now in
    let n = s.wires in
    let w = c.loop-wire.wire in
    let i = c.loop-wire.invariant in
    let ci = circuit_in s in
    let r = c.passed-first.result in
    let p : Passed (at ci w) r.0 r.1 = subst (λ x. Passed (at x w) r.0 r.1) (circuit_kept PlacedRow s t i.0 i.1 placed_circuit) c.passed-first.ensures in
    subst (λ k. Placeable k t.memory.now r.0) (sym i.0.wires)
    (first_placeable ci w r.0 r.1 p n (circuit_length m n (room_of s)) c.loop-wire-test.true c.requires.ordered t.memory.now i.2)

pub place_use-requires-in-loop-wire : goal.place_use-requires-in-loop-wire
place_use-requires-in-loop-wire c =
    let s = c.args.self.now in
    let t = c.loop-wire.self in
    let u = c.place_use.new.self in
    let n = s.wires in
    let w = c.loop-wire.wire in
    let i = c.loop-wire.invariant in
    let ci = circuit_in s in
    let r = c.passed-first.result in
    let long = circuit_length s.memory.now n (room_of s) in
    let A = fed ci in
    let L = fed_below ci w in
    let M = with_use L r.0 w in
    let p : Passed (at ci w) r.0 r.1 = subst (λ x. Passed (at x w) r.0 r.1) (circuit_kept PlacedRow s t i.0 i.1 placed_circuit) c.passed-first.ensures in
    let first = subst (λ k. FitsIn k A L r.0 → Filled k t.memory.now A L → Filled k u.memory.now A M) i.0.wires (c.place_use.ensures.filled A L) in
    subst (λ k. Placeable k u.memory.now r.1) (sym (c.place_use.ensures.same.wires ∙ i.0.wires))
    (second_placeable ci w r.0 r.1 p n long c.loop-wire-test.true c.requires.ordered u.memory.now (first (first_fits ci w r.0 r.1 p n long c.loop-wire-test.true) i.2))

pub loop-wire-preserved : goal.loop-wire-preserved
loop-wire-preserved c =
    let s = c.args.self.now in
    let t = c.loop-wire.self in
    let u = c.place_use.new.self in
    let v = c.place_use-in-loop-wire.new.self in
    let n = s.wires in
    let w = c.loop-wire.wire in
    let i = c.loop-wire.invariant in
    let ci = circuit_in s in
    let r = c.passed-first.result in
    let long = circuit_length s.memory.now n (room_of s) in
    let A = fed ci in
    let L = fed_below ci w in
    let M = with_use L r.0 w in
    let N = with_use M r.1 w in
    let p : Passed (at ci w) r.0 r.1 = subst (λ x. Passed (at x w) r.0 r.1) (circuit_kept PlacedRow s t i.0 i.1 placed_circuit) c.passed-first.ensures in
    let same = same_then s t u i.0 c.place_use.ensures.same in
    let first = subst (λ k. FitsIn k A L r.0 → Filled k t.memory.now A L → Filled k u.memory.now A M) i.0.wires (c.place_use.ensures.filled A L) in
    let second = subst (λ k. FitsIn k A M r.1 → Filled k u.memory.now A M → Filled k v.memory.now A N) same.wires (c.place_use-in-loop-wire.ensures.filled A M) in (
      same_then s u v same c.place_use-in-loop-wire.ensures.same,
      only_next PlacedRow s u v same (only_next PlacedRow s t u i.0 i.1 c.place_use.ensures.rest) c.place_use-in-loop-wire.ensures.rest,
      filled_same n v.memory.now A N (fed_below ci (w + 1)) (next_fed ci w r.0 r.1 p)
          (second (second_fits ci w r.0 r.1 p n long c.loop-wire-test.true) (first (first_fits ci w r.0 r.1 p n long c.loop-wire-test.true) i.2)),
    )
