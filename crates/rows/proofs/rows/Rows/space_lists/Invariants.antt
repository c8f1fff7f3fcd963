use Rattle.std.proofs.Common.{◌≡◌}
use Rattle.rows.specs.Rows.{SameRows, Only}
use Rattle.rows.specs.Held.{circuit_of}
use Rattle.rows.specs.Fed.{fed_below}
use Rattle.rows.specs.Loading.{offset, Spaced, ListRow}
use Rattle.rows.proofs.rows.Rows.space_lists.Given as goal

abbrev pub invariant-loop-wire : goal.invariant-loop-wire
invariant-loop-wire l =
    let m = l.initial.self.memory.now in
    let n = l.initial.self.wires in
    let A = fed_below (circuit_of m n) n in
    SameRows l.initial.self l.self × Only ListRow n m l.self.memory.now × Spaced n l.self.memory.now A l.wire × (l.total ≡ offset A l.wire)
