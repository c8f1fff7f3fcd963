use Rattle.rows.specs.Rows.{SameRows, Only}
use Rattle.rows.specs.Held.{circuit_of}
use Rattle.rows.specs.Fed.{fed, fed_below}
use Rattle.rows.specs.Loading.{Filled, PlacedRow}
use Rattle.rows.proofs.rows.Rows.place_wires.Given as goal

abbrev pub invariant-loop-wire : goal.invariant-loop-wire
invariant-loop-wire l =
    let m = l.initial.self.memory.now in
    let n = l.initial.self.wires in
    SameRows l.initial.self l.self
    × Only PlacedRow n m l.self.memory.now
    × Filled n l.self.memory.now (fed (circuit_of m n)) (fed_below (circuit_of m n) l.wire)
