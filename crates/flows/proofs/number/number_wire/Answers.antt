use Rattle.std.proofs.Common.{◌+◌, sym, refl, ◌∙◌, subst, ap₂, inl, inr, arith}
use Rattle.rows.specs.Rows.{cell}
use Rattle.flows.specs.Numbers.{Numbering, noted}
use Rattle.rows.proofs.Rooms.{room_of}
use Rattle.flows.proofs.Numbers.{from_none, kind_none, turn_none, one_few, turn_one, two_few, two_more_few, turn_two}
use Rattle.rows.proofs.HeldCircuit.{circuit_at}
use Rattle.rows.specs.Held.{making}
use Rattle.flows.proofs.number.number_wire.Goals as goal
use Rattle.flows.proofs.number.number_wire.Goals.{then-kind-via-then-kind, then-kind-via-else-kind+then-kind-2}

pub returns-then-kind-clause-memory : goal.returns-then-kind-clause-memory
returns-then-kind-clause-memory c =
    let m = c.args.rows.now.memory.now in
    let n = c.args.rows.now.wires in
    let w = c.args.wire in
    turn_none n m (room_of c.args.rows.now) w c.requires.wire (making (cell m n 0 w) (cell m n 1 w) (cell m n 2 w)) (cell m n 9 w) (cell m n 10 w)
    (sym (circuit_at m n w)) refl refl c.requires.ordered c.requires.numbers
    (kind_none (cell m n 0 w) (cell m n 1 w) (cell m n 2 w)
    (elim c.then-kind.branch [ then-kind-via-then-kind w ↦ inl (sym c.get-kind.ensures ∙ w.if-kind.true) | then-kind-via-else-kind+then-kind-2 w ↦ inr (omega (arith, c.get-kind.ensures, w.if-kind-2.true)) ]))

pub note-requires-in-Copy-clause-few : goal.note-requires-in-Copy-clause-few
note-requires-in-Copy-clause-few c =
    omega (
      arith,
      c.requires.few c.in-Copy.first,
      one_few c.args.rows.now.wires c.args.rows.now.memory.now (room_of c.args.rows.now) c.args.wire c.requires.wire c.making.result c.get-a.result c.get-b.result
          c.making.ensures c.get-a.ensures c.get-b.ensures c.requires.ordered c.requires.numbers c.in-Copy.first c.in-Copy.is,
    )

pub note-requires-clause-few : goal.note-requires-clause-few
note-requires-clause-few c =
    omega (
      arith,
      c.requires.few c.in-Sum.first,
      two_few c.args.rows.now.wires c.args.rows.now.memory.now (room_of c.args.rows.now) c.args.wire c.requires.wire c.making.result c.get-a.result c.get-b.result
          c.making.ensures c.get-a.ensures c.get-b.ensures c.requires.ordered c.requires.numbers c.in-Sum.first c.in-Sum.second c.in-Sum.is,
    )

pub note-requires-in-Sum-clause-few : goal.note-requires-in-Sum-clause-few
note-requires-in-Sum-clause-few c =
    omega (
      arith,
      c.requires.few c.in-Sum.second,
      ap₂ (λ m n. cell m n 17 c.in-Sum.second) c.note.ensures.memory c.note.ensures.same.wires,
      two_more_few c.args.rows.now.wires c.args.rows.now.memory.now (room_of c.args.rows.now) c.args.wire c.requires.wire c.making.result c.get-a.result c.get-b.result
          c.making.ensures c.get-a.ensures c.get-b.ensures c.requires.ordered c.requires.numbers c.in-Sum.first c.in-Sum.second c.in-Sum.is,
    )

pub returns-in-Sum-clause-memory : goal.returns-in-Sum-clause-memory
returns-in-Sum-clause-memory c =
    subst (λ m. Numbering c.args.rows.now.wires c.args.rows.now.memory.now m (c.args.wire + 1))
    (sym (c.note-in-Sum.ensures.memory ∙ ap₂ (λ m n. noted m n 16 c.in-Sum.second c.args.wire c.get-b.result) c.note.ensures.memory c.note.ensures.same.wires))
    (turn_two c.args.rows.now.wires c.args.rows.now.memory.now (room_of c.args.rows.now) c.args.wire c.requires.wire c.making.result c.get-a.result c.get-b.result
    c.making.ensures c.get-a.ensures c.get-b.ensures c.requires.ordered c.requires.numbers c.in-Sum.first c.in-Sum.second c.in-Sum.is)

pub returns-in-Input-clause-memory : goal.returns-in-Input-clause-memory
returns-in-Input-clause-memory c =
    turn_none c.args.rows.now.wires c.args.rows.now.memory.now (room_of c.args.rows.now) c.args.wire c.requires.wire c.making.result c.get-a.result c.get-b.result
    c.making.ensures c.get-a.ensures c.get-b.ensures c.requires.ordered c.requires.numbers (from_none c.making.result c.in-Input.is)

pub returns-in-Copy-clause-memory : goal.returns-in-Copy-clause-memory
returns-in-Copy-clause-memory c =
    subst (λ m. Numbering c.args.rows.now.wires c.args.rows.now.memory.now m (c.args.wire + 1)) (sym c.note-in-Copy.ensures.memory)
    (turn_one c.args.rows.now.wires c.args.rows.now.memory.now (room_of c.args.rows.now) c.args.wire c.requires.wire c.making.result c.get-a.result c.get-b.result
    c.making.ensures c.get-a.ensures c.get-b.ensures c.requires.ordered c.requires.numbers c.in-Copy.first c.in-Copy.is)
