use Rattle.std.proofs.Common.{◌+◌, ◌≡◌, ◌<◌, ◌∙◌, sym, ap, subst, refl, arith}
use Rattle.circuits.specs.declared.making.Making.TheVariants.{Product}
use Rattle.routes.specs.Routes.{at}
use Rattle.rows.specs.Rows.{Between, Only, written}
use Rattle.rows.specs.Held.{circuit_in}
use Rattle.rows.specs.Fed.{Flagged}
use Rattle.rows.proofs.Cells.{only_then}
use Rattle.rows.proofs.HeldCircuit.{feeds_held}
use Rattle.rows.proofs.Loadings.{flagged_product, flagged_rest, flagged_none, no_product}
use Rattle.rows.proofs.Rooms.{room_of, room_after, written_next, same_then, circuit_kept}
use Rattle.rows.proofs.rows.Rows.flag_goals.Invariants.{GoalsBelow}
use Rattle.rows.proofs.rows.Rows.flag_goals.Goals as goal
use Rattle.rows.proofs.rows.Rows.flag_goals.Goals.{in-Product, in_default}

pub loop-wire-preserved : goal.loop-wire-preserved
loop-wire-preserved c =
    let s = c.args.self.now in
    let t = c.loop-wire.self in
    let m = s.memory.now in
    let n = s.wires in
    let x = t.memory.now in
    let w = c.loop-wire.wire in
    let i = c.loop-wire.invariant in
    let ci = circuit_in s in
    let room = room_after s t i.0 in
    let made : c.making.result ≡ at ci w = c.making.ensures ∙ ap (λ x. at x w) (circuit_kept (Between 4 4) s t i.0 i.1 (λ r h f. omega (arith, f.0))) in
    elim c.match-making.branch [
      | in-Product v ↦
          let a = v.in-Product.a in
          let b = v.in-Product.b in
          let u = v.put.new.self in
          let u' = v.put-in-Product.new.self in
          let is : at ci w ≡ Product a b = sym made ∙ v.in-Product.is in
          let fed = feeds_held m n (room_of s) c.requires.ordered w c.loop-wire-test.true (Product a b) (sym is) in
          let low : a < n = omega (arith, fed.0, c.loop-wire-test.true) in
          let next_low : b < n = omega (arith, fed.1, c.loop-wire-test.true) in
          let first : u.memory.now ≡ written x n 4 a 1 = written_next n t u.memory.now x 4 a 1 i.0.wires refl v.put.ensures.memory in
          let after : u'.memory.now ≡ written (written x n 4 a 1) n 4 b 1 =
          written_next n u u'.memory.now (written x n 4 a 1) 4 b 1 (v.put.ensures.same.wires ∙ i.0.wires) first v.put-in-Product.ensures.memory in
          subst (GoalsBelow s (w + 1)) (sym v.self-is) (
            same_then s u u' (same_then s t u i.0 v.put.ensures.same) v.put-in-Product.ensures.same,
            subst (Only (Between 4 4) n m) (sym after) (only_then (Between 4 4) n m x (written (written x n 4 a 1) n 4 b 1) i.1 (flagged_rest ci n x room w a b is low next_low)),
            subst (λ z. Flagged ci n z (w + 1)) (sym after) (flagged_product ci n x room w a b is low next_low i.2),
          )
      | in_default v ↦ subst (GoalsBelow s (w + 1)) (sym v.self-is)
          (i.0, i.1, flagged_none ci n x w (no_product (at ci w) (λ a b e. v.in_default.not-Product a b (made ∙ e))) i.2)
    ]
