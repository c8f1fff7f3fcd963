use Rattle.std.proofs.Common.{◌≡◌, ◌+◌, true, cond, List, [], ◌∷◌, length, get_or, drop, is_ok, Err, sym, refl, ap, ◌∙◌, subst}
use Rattle.std.proofs.lemmas.Bool.{both_ways}
use Rattle.reading.specs.declared.wires.Side.{Side}
use Rattle.reading.specs.declared.wires.Side.TheVariants.{In, Out}
use Rattle.tokens.specs.Faults.{fault_at}
use Rattle.tokens.specs.Lines.{number_at}
use Rattle.reading.specs.Holds.{two, got, making_in}
use Rattle.reading.specs.Memory.{Lasts, wires_of}
use Rattle.reading.proofs.Stand.{Stands}
use Rattle.reading.proofs.Sides.{ins, in_stop, outs, sides, sides_all, run_done, ready_next}
use Rattle.reading.proofs.Lasting.{lasts_on}
use Rattle.reading.proofs.Walk.{in_row, past_row, next_ok, hit, asks_out, puts_out, turn_out, turn_in, passed_right, begins}
use Rattle.reading.proofs.made.Made.line.Goals as goal
use Rattle.reading.proofs.made.Made.line.Goals.{then-takes_two, else-takes_two, in-Out, in_default}

abbrev both : List Side
both = In ∷ Out ∷ []

pub loop-side-init : goal.loop-side-init
loop-side-init c =
    let text = c.args.start.now.text.now in
    let count = length c.args.self.now.table.now in
    let g = c.args.line in
    let before = wires_of c.args.self.now in
    let text_is : c.if-takes_two.right.text ≡ c.args.start.now.text =
    elim c.if-takes_two.branch [
      | then-takes_two w ↦ ap (λ r. r.text) w.right-is ∙ w.pass_numbers.ensures.text
      | else-takes_two w ↦ ap (λ r. r.text) w.right-is
    ] in
    let other : two g.rule.making ≡ true → Stands text (ins text count g before) (in_stop text count g before) (length (outs text count g before) + 0) c.if-takes_two.right.at =
    elim c.if-takes_two.branch [
      | then-takes_two w ↦ λ y. subst (λ x. Stands text (ins text count g before) (in_stop text count g before) (length (outs text count g before) + 0) x) (sym (ap (λ r. r.at) w.right-is)) (passed_right text count g before c.requires.whole w.pass_numbers.result c.args.start.now.at w.pass_numbers.new.self.at c.requires.here w.pass_numbers.ensures.result y)
      | else-takes_two w ↦ λ y. absurd (both_ways _ (sym c.takes_two.ensures ∙ w.if-takes_two.false) y)
    ] in
    (refl, refl, text_is, begins text count g before c.requires.whole c.args.self.now.count c.args.start.now.at c.if-takes_two.right.at c.args.self.now.table.now c.args.self.now.ranks.now refl refl c.args.self.now.keeps c.requires.here other, sides_all text count g before, record { table = refl; ranks = refl; rows = refl })

pub reread-wire-requires : goal.reread-wire-requires
reread-wire-requires c =
    let lt = in_row c.args.start.now.text.now (length c.args.self.now.table.now) c.args.line (wires_of c.args.self.now) c.requires.whole 0 0 c.loop.counter 0 0 0 [] [] (get_or both c.loop-side.side-index In) _ c.count_of-end.ensures c.loop-test.true in
    ap (λ r. is_ok (number_at r.now c.loop.wires.at)) c.loop.invariant.0 ∙ next_ok _ _ _ _ _ _ _ _ _ _ _ _ _ c.loop.invariant.3 lt

pub take_making-making-requires : goal.take_making-making-requires
take_making-making-requires c =
    let lt = in_row c.args.start.now.text.now (length c.args.self.now.table.now) c.args.line (wires_of c.args.self.now) c.requires.whole 0 0 c.loop.counter 0 0 0 [] [] (get_or both c.loop-side.side-index In) _ c.count_of-end.ensures c.loop-test.true in
    let a = asks_out _ _ _ _ c.requires.whole _ _ _ _ _ _ _ _ _ c.in-Out.is c.loop.invariant.3 lt in
    record { left = ap (λ r. is_ok (number_at r.now c.loop.left.at)) c.loop.invariant.1 ∙ a.0; right = λ y. ap (λ r. is_ok (number_at r.now c.loop.right.at)) c.loop.invariant.2 ∙ a.1 y }

pub put-requires : goal.put-requires
put-requires c =
    let lt = in_row c.args.start.now.text.now (length c.args.self.now.table.now) c.args.line (wires_of c.args.self.now) c.requires.whole 0 0 c.loop.counter 0 0 0 [] [] (get_or both c.loop-side.side-index In) _ c.count_of-end.ensures c.loop-test.true in
    let read = c.reread-wire.ensures.value ∙ ap (λ r. number_at r.now c.loop.wires.at) c.loop.invariant.0 in
    let a = puts_out _ _ _ _ c.requires.whole _ _ _ _ _ _ _ _ _ c.in-Out.is c.loop.invariant.3 lt c.reread-wire.result c.reread-wire.new.cursor.at read (sym c.if-is_refused.ensures) in
    record { named = a.0; fresh = a.1 }

pub loop-preserved : goal.loop-preserved
loop-preserved c =
    let text = c.args.start.now.text.now in
    let lt = in_row text (length c.args.self.now.table.now) c.args.line (wires_of c.args.self.now) c.requires.whole 0 0 c.loop.counter 0 0 0 [] [] (get_or both c.loop-side.side-index In) _ c.count_of-end.ensures c.loop-test.true in
    let read = c.reread-wire.ensures.value ∙ ap (λ r. number_at r.now c.loop.wires.at) c.loop.invariant.0 in
    elim c.match-side.branch [
      | in-Out w ↦
          let took = w.take_making-making.ensures in
          let making = took.making ∙ ap (λ r. making_in c.args.line.rule.making c.loop.self.ranks.now (got (number_at r.now c.loop.left.at)).0.value (cond (two c.args.line.rule.making) (got (number_at c.loop.right.text.now c.loop.right.at)).0.value 0)) c.loop.invariant.1 ∙ ap (λ r. making_in c.args.line.rule.making c.loop.self.ranks.now (got (number_at text c.loop.left.at)).0.value (cond (two c.args.line.rule.making) (got (number_at r.now c.loop.right.at)).0.value 0)) c.loop.invariant.2 in
          let lefts = ap (λ r. r.at) w.left-is ∙ took.left.1 ∙ ap (λ r. (got (number_at r.now c.loop.left.at)).1) c.loop.invariant.1 in
          let rights = ap (λ r. r.at) w.right-is ∙ took.right.1 ∙ ap (λ r. cond (two c.args.line.rule.making) (got (number_at r.now c.loop.right.at)).1 c.loop.right.at) c.loop.invariant.2 in
          let t = turn_out _ _ _ _ c.requires.whole _ _ _ _ _ _ _ _ _ w.in-Out.is c.loop.invariant.3 lt c.reread-wire.result c.reread-wire.new.cursor.at read (sym c.if-is_refused.ensures) w.take_making-making.result c.match-side.self.count c.match-side.left.at c.match-side.right.at c.match-side.self.table.now c.match-side.self.ranks.now making (ap (λ m. m.table.now) w.self-is ∙ w.put.ensures.table) (ap (λ m. m.ranks.now) w.self-is ∙ w.put.ensures.ranks) (ap (λ m. m.count) w.self-is ∙ w.put.ensures.count) lefts rights in
          (c.reread-wire.ensures.text ∙ c.loop.invariant.0, ap (λ r. r.text) w.left-is ∙ took.left.0 ∙ c.loop.invariant.1, ap (λ r. r.text) w.right-is ∙ took.right.0 ∙ c.loop.invariant.2, t.0, t.1 _ ∙ c.loop.invariant.4, subst (Lasts c.args.self.now) (sym w.self-is) (lasts_on _ _ _ c.loop.invariant.5 w.put.ensures.lasts))
      | in_default w ↦
          let t = turn_in _ _ _ _ c.requires.whole _ _ _ _ _ _ _ _ _ w.in_default.not-Out c.loop.invariant.3 lt c.reread-wire.result c.reread-wire.new.cursor.at read (sym c.if-is_refused.ensures) c.match-side.self.count c.match-side.left.at c.match-side.right.at c.match-side.self.table.now c.match-side.self.ranks.now (ap (λ m. m.table.now) w.self-is) (ap (λ m. m.ranks.now) w.self-is) (ap (λ m. m.count) w.self-is) (ap (λ r. r.at) w.left-is) (ap (λ r. r.at) w.right-is) in
          (c.reread-wire.ensures.text ∙ c.loop.invariant.0, ap (λ r. r.text) w.left-is ∙ c.loop.invariant.1, ap (λ r. r.text) w.right-is ∙ c.loop.invariant.2, t.0, t.1 _ ∙ c.loop.invariant.4, subst (Lasts c.args.self.now) (sym w.self-is) c.loop.invariant.5)
    ]

pub loop-side-preserved : goal.loop-side-preserved
loop-side-preserved c =
    let text = c.args.start.now.text.now in
    let count = length c.args.self.now.table.now in
    let before = wires_of c.args.self.now in
    let side = get_or both c.loop-side.side-index In in
    let past = past_row text count c.args.line before c.requires.whole 0 0 c.loop.counter 0 0 0 [] [] side _ c.count_of-end.ensures c.loop-test.false in (
      c.loop.invariant.0,
      c.loop.invariant.1,
      c.loop.invariant.2,
      ready_next text count c.args.line before c.requires.whole c.args.self.now.count c.loop.self.count c.loop.wires.at c.loop.left.at c.loop.right.at c.loop.self.table.now c.loop.self.ranks.now c.loop-side.side-index c.loop.counter c.loop-side-test.true c.loop.invariant.3 past,
      sym (run_done text count c.args.line before (sides text count c.args.line before (drop (c.loop-side.side-index + 1) both)) (wires_of c.loop.self) c.loop.counter side past) ∙ c.loop.invariant.4,
      c.loop.invariant.5,
    )

pub returns-then-is_refused-clause-result : goal.returns-then-is_refused-clause-result
returns-then-is_refused-clause-result c =
    let text = c.args.start.now.text.now in
    let count = length c.args.self.now.table.now in
    let before = wires_of c.args.self.now in
    let side = get_or both c.loop-side.side-index In in
    let at = c.reread-wire.result.at in
    let lt = in_row text count c.args.line before c.requires.whole 0 0 c.loop.counter 0 0 0 [] [] side _ c.count_of-end.ensures c.loop-test.true in
    let read = c.reread-wire.ensures.value ∙ ap (λ r. number_at r.now c.loop.wires.at) c.loop.invariant.0 in
    ap Err (c.fault.ensures c.reread-wire.ensures.line)
    ∙ ap (λ r. Err (fault_at r.now c.refusal_of.result at)) (c.reread-wire.ensures.text ∙ c.loop.invariant.0)
    ∙ ap (λ n. Err (fault_at text n at)) c.refusal_of.ensures
    ∙ sym (hit text count c.args.line before c.args.self.now.count c.loop.self.count c.loop.counter c.loop.wires.at c.loop.left.at c.loop.right.at c.loop.self.table.now c.loop.self.ranks.now side c.loop.invariant.3 lt c.reread-wire.result c.reread-wire.new.cursor.at read (sides text count c.args.line before (drop (c.loop-side.side-index + 1) both)) (sym c.if-is_refused.ensures))
    ∙ c.loop.invariant.4
