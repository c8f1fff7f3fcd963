use Rattle.std.proofs.Common.{◌≡◌, ◌-◌, sym, ap, ◌∙◌, subst₂, arith}
use Rattle.routes.specs.Sums.{sum_of, ranks}
use Rattle.rows.specs.Rows.{cell}
use Rattle.flows.specs.Kept.{flow_in}
use Rattle.flows.specs.Units.{Ending}
use Rattle.rows.proofs.Rooms.{room_seen}
use Rattle.flows.proofs.Endings.{ended_at}
use Rattle.flows.proofs.number.ending_noted.Goals as goal

pub get-before-requires : goal.get-before-requires
get-before-requires c =
    omega (arith, c.get-wire.ensures, (ended_at c.args.rows.now.wires c.args.rows.now.memory.now (room_seen c.args.rows.now) c.requires.ordered c.requires.flows c.requires.endings c.args.i c.requires.some).within)

-- what was read is the sum below the wire
module _ (c : goal.After-get-before) where
  sum_is : c.get-before.result ≡ sum_of (flow_in c.args.rows.now.memory.now c.args.rows.now.wires).finish (ranks (cell c.args.rows.now.memory.now c.args.rows.now.wires 18 c.args.i))
  sum_is =
      c.get-before.ensures ∙ ap (cell c.args.rows.now.memory.now c.args.rows.now.wires 19) c.get-wire.ensures
      ∙ c.requires.endings.sums (cell c.args.rows.now.memory.now c.args.rows.now.wires 18 c.args.i) (ended_at c.args.rows.now.wires c.args.rows.now.memory.now (room_seen c.args.rows.now) c.requires.ordered c.requires.flows c.requires.endings c.args.i c.requires.some).within

pub overflow_sub-result : goal.overflow_sub-result
overflow_sub-result c = omega (arith, sum_is c, (ended_at c.args.rows.now.wires c.args.rows.now.memory.now (room_seen c.args.rows.now) c.requires.ordered c.requires.flows c.requires.endings c.args.i c.requires.some).number)

pub returns : goal.returns
returns c =
    subst₂ (λ w s. Ending (flow_in c.args.rows.now.memory.now c.args.rows.now.wires) c.args.rows.now.wires c.args.i w (c.args.i - s)) (sym c.get-wire.ensures) (sym (sum_is c))
    (ended_at c.args.rows.now.wires c.args.rows.now.memory.now (room_seen c.args.rows.now) c.requires.ordered c.requires.flows c.requires.endings c.args.i c.requires.some)
