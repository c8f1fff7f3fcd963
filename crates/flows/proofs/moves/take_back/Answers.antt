use Rattle.std.proofs.Common.{◌<◌, sym, ◌∙◌, ⊎_elim, arith}
use Rattle.routes.specs.Routes.{at}
use Rattle.routes.specs.Stored.{Second}
use Rattle.rows.specs.Rows.{cell}
use Rattle.rows.specs.Held.{circuit_of}
use Rattle.rows.proofs.Rooms.{room_of}
use Rattle.flows.proofs.Writes.{along_passes, is_first, from_second, first_lowered, second_lowered, changed_at}
use Rattle.flows.proofs.moves.take_back.Goals as goal

pub lower-requires-else-first-from-clause-some : goal.lower-requires-else-first-from-clause-some
lower-requires-else-first-from-clause-some c =
    (from_second c.args.rows.now.memory.now c.args.rows.now.wires c.args.from c.args.wire c.requires.some
    (λ t. ⊎_elim (λ u. omega (arith, u.1, t.1, c.get-units.ensures)) (λ u. u (c.get-first.ensures ∙ t.0)) c.else-first-from.either)).1

pub returns-then-units-gt0-clause-flow : goal.returns-then-units-gt0-clause-flow
returns-then-units-gt0-clause-flow c =
    let m = c.args.rows.now.memory.now in
    let n = c.args.rows.now.wires in
    changed_at c.lower.ensures.memory
    (first_lowered m n c.args.wire (room_of c.args.rows.now) c.requires.wire c.args.from
    (is_first m n c.args.from c.args.wire (along_passes m n c.args.from c.args.wire c.requires.some) (sym c.get-first.ensures ∙ c.if-first-from.true))
    (omega (arith, c.get-units.ensures, c.if-units-gt0.true)))

pub returns-else-first-from-clause-flow : goal.returns-else-first-from-clause-flow
returns-else-first-from-clause-flow c =
    let m = c.args.rows.now.memory.now in
    let n = c.args.rows.now.wires in
    let second : Second (at (circuit_of m n) c.args.wire) c.args.from × (0 < cell m n 10 c.args.wire) =
    from_second m n c.args.from c.args.wire c.requires.some
    (λ t. ⊎_elim (λ u. omega (arith, u.1, t.1, c.get-units.ensures)) (λ u. u (c.get-first.ensures ∙ t.0)) c.else-first-from.either) in
    changed_at c.lower-else-first-from.ensures.memory
    (second_lowered m n c.args.wire (room_of c.args.rows.now) c.requires.wire c.args.from second.0 second.1)
