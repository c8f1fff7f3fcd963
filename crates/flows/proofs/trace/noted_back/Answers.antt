use Rattle.std.proofs.Common.{◌+◌, ◌<◌, length, set, sym, subst, arith, length-set}
use Rattle.rows.specs.Held.{circuit_of, bars_of}
use Rattle.flows.specs.Kept.{flow_in}
use Rattle.flows.specs.Units.{Leading}
use Rattle.flows.proofs.Units.{leading_first, giver_lower, giver_few, leading_more, leading_last}
use Rattle.flows.proofs.trace.noted_back.Goals as goal

pub loop-at-init : goal.loop-at-init
loop-at-init c =
    let m = c.args.rows.now.memory.now in
    let n = c.args.rows.now.wires in
    leading_first (circuit_of m n) c.requires.ordered (bars_of m n) (flow_in m n) c.requires.flows c.args.i n
    c.ending_noted-at.result.wire c.ending_noted-at.result.number c.args.out.now (omega (arith, c.requires.long, c.ending_noted-at.ensures.within)) c.ending_noted-at.ensures

pub giver-from-requires-clause-later : goal.giver-from-requires-clause-later
unfolding flow_in
giver-from-requires-clause-later c = omega (arith, c.get.ensures, c.loop-at-test.true)

pub overflow_add-at : goal.overflow_add-at
overflow_add-at c =
    omega (
      arith,
      giver_few c.args.rows.now.wires c.args.rows.now.memory.now c.requires.ordered c.requires.flows c.loop-at.at.wire c.loop-at.at.number
          c.giver-from.result.wire c.giver-from.result.number c.giver-from.ensures,
      c.requires.few,
      c.args.rows.now.few,
      c.noted_before-first.ensures,
    )

pub loop-at-smaller : goal.loop-at-smaller
loop-at-smaller c =
    giver_lower c.args.rows.now.wires c.args.rows.now.memory.now c.requires.ordered c.requires.flows c.loop-at.at.wire c.loop-at.at.number
    c.giver-from.result.wire c.giver-from.result.number c.giver-from.ensures

pub loop-at-preserved : goal.loop-at-preserved
loop-at-preserved c =
    let m = c.args.rows.now.memory.now in
    let n = c.args.rows.now.wires in
    let before = set c.args.out.now 0 c.ending_noted-at.result.wire in
    let l : c.loop-at.len < length c.loop-at.out =
    omega (
      arith,
      giver_lower n m c.requires.ordered c.requires.flows c.loop-at.at.wire c.loop-at.at.number c.giver-from.result.wire c.giver-from.result.number c.giver-from.ensures,
      c.loop-at.invariant.high,
      c.requires.long,
      c.loop-at.auto.out,
      length-set c.args.out.now 0 c.ending_noted-at.result.wire,
    ) in
    subst (λ k. Leading (flow_in m n) c.args.i n c.giver-from.result.wire (k + c.giver-from.result.number) (c.loop-at.len + 1) before
    (set c.loop-at.out c.loop-at.len c.giver-from.result.wire)) (sym c.noted_before-first.ensures)
    (leading_more (circuit_of m n) c.requires.ordered (bars_of m n) (flow_in m n) c.requires.flows c.args.i n
    c.loop-at.at.wire c.loop-at.at.number c.loop-at.len before c.loop-at.out c.loop-at.invariant c.giver-from.result.wire c.giver-from.result.number c.giver-from.ensures l)

pub returns : goal.returns
unfolding flow_in
returns c =
    let m = c.args.rows.now.memory.now in
    let n = c.args.rows.now.wires in
    leading_last (circuit_of m n) c.requires.ordered (bars_of m n) (flow_in m n) c.requires.flows c.args.i n
    c.loop-at.at.wire c.loop-at.at.number c.loop-at.len c.args.out.now c.loop-at.out c.ending_noted-at.result.wire c.loop-at.invariant
    (omega (arith, c.get.ensures, c.loop-at-test.false))
