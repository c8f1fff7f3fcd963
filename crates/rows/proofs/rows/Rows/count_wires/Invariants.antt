use Rattle.rows.specs.Rows.{SameRows, Between, Only}
use Rattle.rows.specs.Held.{circuit_of}
use Rattle.rows.specs.Fed.{fed_below}
use Rattle.rows.specs.Loading.{Counted}
use Rattle.rows.proofs.rows.Rows.count_wires.Given as goal

abbrev pub invariant-loop-wire : goal.invariant-loop-wire
invariant-loop-wire l =
    let m = l.initial.self.memory.now in
    let n = l.initial.self.wires in
    SameRows l.initial.self l.self × Only (Between 5 5) n m l.self.memory.now × Counted n l.self.memory.now (fed_below (circuit_of m n) l.wire)
