use Rattle.std.proofs.Common.{ℕ, List}
use Rattle.circuits.specs.declared.making.Making.{Making}
use Rattle.rows.specs.declared.rows.Rows.{Rows}
use Rattle.rows.specs.Rows.{SameRows}
use Rattle.rows.proofs.Loadings.{Copied}
use Rattle.rows.proofs.rows.Rows.put_makings.Given as goal

-- the rows when the makings below k are in them
abbrev pub MadeBelow : List Making → Rows → ℕ → Rows → Type 0
MadeBelow ms s k t = SameRows s t × Copied s.wires t.memory.now ms k

abbrev pub invariant-loop-wire : goal.invariant-loop-wire
invariant-loop-wire g l = MadeBelow (g.C.Circuit.meaning l.circuit).makings l.initial.self l.wire l.self
