use Rattle.std.proofs.Common.{◌+◌, sym, ap, subst, arith}
use Rattle.routes.specs.Traces.{first_to}
use Rattle.rows.specs.Rows.{Between}
use Rattle.rows.specs.Held.{circuit_of, bars_of}
use Rattle.rows.proofs.HeldCircuit.{circuit_length}
use Rattle.flows.specs.Kept.{flow_in}
use Rattle.flows.specs.Numbers.{Numbers, Numbering}
use Rattle.rows.proofs.Rooms.{room_of, same_then}
use Rattle.flows.proofs.Kept.{flow_after}
use Rattle.flows.proofs.Numbers.{first_to_few, numbering_more, numbers_now}
use Rattle.flows.proofs.number.number_wires.Goals as goal

pub number_wire-requires-clause-few : goal.number_wire-requires-clause-few
number_wire-requires-clause-few c v =
    let m = c.args.rows.now.memory.now in
    let n = c.args.rows.now.wires in
    omega (
      arith,
      c.requires.few,
      ap (λ x. first_to x v (c.loop-w.w + 1)) (flow_after (Between 15 17) c.args.rows.now c.loop-w.rows c.loop-w.invariant.1 (λ r l f. omega arith) c.loop-w.invariant.0.rest),
      first_to_few (circuit_of m n) c.requires.ordered (bars_of m n) (flow_in m n) c.requires.flows v (c.loop-w.w + 1)
          (omega (arith, circuit_length m n (room_of c.args.rows.now), c.loop-w-test.true)),
    )

pub number_wire-requires-clause-numbers : goal.number_wire-requires-clause-numbers
number_wire-requires-clause-numbers c =
    let l = c.loop-w.rows.memory.now in
    subst (λ n. Numbers (circuit_of l n) (flow_in l n) n l c.loop-w.w) (sym c.loop-w.invariant.1.wires)
    (numbers_now c.args.rows.now.wires c.args.rows.now.memory.now l c.loop-w.w c.loop-w.invariant.0)

pub loop-w-preserved : goal.loop-w-preserved
loop-w-preserved c =
    let l = c.loop-w.rows.memory.now in
    let m = c.number_wire.new.rows.memory.now in (
      numbering_more c.args.rows.now.wires c.args.rows.now.memory.now l m c.loop-w.w c.loop-w.invariant.0
          (subst (λ n. Numbering n l m (c.loop-w.w + 1)) c.loop-w.invariant.1.wires c.number_wire.ensures.memory),
      same_then c.args.rows.now c.loop-w.rows c.number_wire.new.rows c.loop-w.invariant.1 c.number_wire.ensures.same,
    )
