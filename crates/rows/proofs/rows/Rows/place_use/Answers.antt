use Rattle.std.proofs.Common.{◌+◌, ◌*◌, set, Some, sym, ap₂, ◌∙◌, subst}
use Rattle.rows.specs.Rows.{written, Only}
use Rattle.rows.specs.Loading.{with_use, Filled, FitsIn, Placeable, PlacedRow}
use Rattle.rows.proofs.Placing.{placed, placed_rest}
use Rattle.rows.proofs.Rooms.{room_of}
use Rattle.rows.proofs.rows.Rows.place_use.Goals as goal

pub returns-in-Some-clause-rest : goal.returns-in-Some-clause-rest
returns-in-Some-clause-rest c =
    let m = c.args.self.now.memory.now in
    let n = c.args.self.now.wires in
    let a = c.in-Some.a in
    let w = c.args.wire in
    let ok = subst (Placeable n m) c.in-Some.is c.requires in
    let after = sym (c.put.ensures.memory ∙ ap₂ (λ q p. written (set m (q * n + p) w) n 13 a (p + 1)) c.number.ensures c.get-next.ensures) in
    subst (Only PlacedRow n m) after (placed_rest n m (room_of c.args.self.now) a w ok.0 ok.1)

pub returns-in-Some-clause-filled : goal.returns-in-Some-clause-filled
returns-in-Some-clause-filled c A L fits f =
    let m = c.args.self.now.memory.now in
    let n = c.args.self.now.wires in
    let a = c.in-Some.a in
    let w = c.args.wire in
    let ok = subst (Placeable n m) c.in-Some.is c.requires in
    let after = sym (c.put.ensures.memory ∙ ap₂ (λ q p. written (set m (q * n + p) w) n 13 a (p + 1)) c.number.ensures c.get-next.ensures) in
    subst (λ o. Filled n c.put.new.self.memory.now A (with_use L o w)) (sym c.in-Some.is)
    (subst (λ x. Filled n x A (with_use L (Some a) w)) after (placed n m (room_of c.args.self.now) a w ok.0 ok.1 A L (subst (FitsIn n A L) c.in-Some.is fits) f))
