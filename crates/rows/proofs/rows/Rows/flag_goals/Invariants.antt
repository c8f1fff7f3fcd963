use Rattle.std.proofs.Common.{ℕ}
use Rattle.rows.specs.declared.rows.Rows.{Rows}
use Rattle.rows.specs.Rows.{SameRows, Between, Only}
use Rattle.rows.specs.Held.{circuit_in}
use Rattle.rows.specs.Fed.{Flagged}
use Rattle.rows.proofs.rows.Rows.flag_goals.Given as goal

-- the rows when the operands of the products below k are flagged
abbrev pub GoalsBelow : Rows → ℕ → Rows → Type 0
GoalsBelow s k t = SameRows s t × Only (Between 4 4) s.wires s.memory.now t.memory.now × Flagged (circuit_in s) s.wires t.memory.now k

abbrev pub invariant-loop-wire : goal.invariant-loop-wire
invariant-loop-wire l = GoalsBelow l.initial.self l.wire l.self
