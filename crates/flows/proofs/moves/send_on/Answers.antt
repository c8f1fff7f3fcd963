use Rattle.std.proofs.Common.{sym, ◌∙◌, arith}
use Rattle.routes.specs.Routes.{at}
use Rattle.rows.specs.Rows.{cell}
use Rattle.rows.specs.Held.{circuit_of}
use Rattle.flows.proofs.Kept.{along_is}
use Rattle.rows.proofs.Rooms.{room_of}
use Rattle.flows.proofs.Writes.{is_first, is_second, first_within, second_within, first_raised, second_raised, changed_at}
use Rattle.flows.proofs.moves.send_on.Goals as goal

pub raise-requires-clause-few : goal.raise-requires-clause-few
raise-requires-clause-few c =
    let m = c.args.rows.now.memory.now in
    let n = c.args.rows.now.wires in
    let w = c.args.wire in
    omega (
      arith,
      c.requires.few,
      along_is m n c.args.from w,
      first_within (at (circuit_of m n) w) (cell m n 9 w) (cell m n 10 w) c.args.from
          (is_first m n c.args.from w c.requires.fed (sym c.get.ensures ∙ c.if-get-from.true)),
    )

pub raise-requires-else-get-from-clause-few : goal.raise-requires-else-get-from-clause-few
raise-requires-else-get-from-clause-few c =
    let m = c.args.rows.now.memory.now in
    let n = c.args.rows.now.wires in
    let w = c.args.wire in
    omega (
      arith,
      c.requires.few,
      along_is m n c.args.from w,
      second_within (at (circuit_of m n) w) (cell m n 9 w) (cell m n 10 w) c.args.from
          (is_second m n c.args.from w c.requires.fed (λ e. c.if-get-from.false (c.get.ensures ∙ e))),
    )

pub returns-then-get-from-clause-flow : goal.returns-then-get-from-clause-flow
returns-then-get-from-clause-flow c =
    let m = c.args.rows.now.memory.now in
    let n = c.args.rows.now.wires in
    let w = c.args.wire in
    changed_at c.raise.ensures.memory
    (first_raised m n w (room_of c.args.rows.now) c.requires.wire c.args.from
    (is_first m n c.args.from w c.requires.fed (sym c.get.ensures ∙ c.if-get-from.true)))

pub returns-else-get-from-clause-flow : goal.returns-else-get-from-clause-flow
returns-else-get-from-clause-flow c =
    let m = c.args.rows.now.memory.now in
    let n = c.args.rows.now.wires in
    let w = c.args.wire in
    changed_at c.raise-else-get-from.ensures.memory
    (second_raised m n w (room_of c.args.rows.now) c.requires.wire c.args.from
    (is_second m n c.args.from w c.requires.fed (λ e. c.if-get-from.false (c.get.ensures ∙ e))))
