use Rattle.std.proofs.Common.{sym, ap, ◌∙◌}
use Rattle.rows.specs.Held.{making_of, kind_of}
use Rattle.rows.specs.Rows.{cell}
use Rattle.rows.proofs.HeldCircuit.{circuit_at, decoded_is}
use Rattle.rows.proofs.rows.View.making.Goals as goal

pub returns : goal.returns
returns c =
    let m = c.args.self.now.memory.now in
    let n = c.args.self.now.wires in
    let w = c.args.wire in
    c.decoded.ensures
    ∙ (λ i. making_of (c.from.ensures i) (c.get-2.ensures i) (c.get-3.ensures i))
    ∙ ap (λ k. making_of (kind_of k) (cell m n 1 w) (cell m n 2 w)) c.get.ensures
    ∙ decoded_is (cell m n 0 w) (cell m n 1 w) (cell m n 2 w)
    ∙ sym (circuit_at m n w)
