use Rattle.std.proofs.Common.{◌+◌, ◌<◌, Some, sym, ap, ◌∙◌, subst, arith}
use Rattle.rows.specs.Rows.{cell, written, Between, Only}
use Rattle.rows.specs.Loading.{Counted, with_use, Countable}
use Rattle.rows.proofs.Cells.{only_written}
use Rattle.rows.proofs.Loadings.{counted_use}
use Rattle.rows.proofs.Rooms.{room_of}
use Rattle.rows.proofs.rows.Rows.count_use.Goals as goal

pub returns-in-Some-clause-rest : goal.returns-in-Some-clause-rest
returns-in-Some-clause-rest c =
    let m = c.args.self.now.memory.now in
    let n = c.args.self.now.wires in
    let a = c.in-Some.a in
    let low : a < n = (subst (Countable n m) c.in-Some.is c.requires).0 in
    let after = sym (c.put.ensures.memory ∙ ap (λ k. written m n 5 a (k + 1)) c.get-count.ensures) in
    subst (Only (Between 5 5) n m) after (only_written (Between 5 5) n m 5 a (cell m n 5 a + 1) low (omega arith, omega arith))

pub returns-in-Some-clause-counted : goal.returns-in-Some-clause-counted
returns-in-Some-clause-counted c L w all =
    let m = c.args.self.now.memory.now in
    let n = c.args.self.now.wires in
    let a = c.in-Some.a in
    let low : a < n = (subst (Countable n m) c.in-Some.is c.requires).0 in
    let after = sym (c.put.ensures.memory ∙ ap (λ k. written m n 5 a (k + 1)) c.get-count.ensures) in
    subst (λ o. Counted n c.put.new.self.memory.now (with_use L o w)) (sym c.in-Some.is)
    (subst (λ x. Counted n x (with_use L (Some a) w)) after (counted_use n m L a w (room_of c.args.self.now) low all))
