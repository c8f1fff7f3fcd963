use Rattle.std.proofs.Common.{◌≡◌, ◌-◌, length}
use Rattle.reading.specs.Texts.{gates_at}
use Rattle.reading.specs.Memory.{Lasts, wires_of}
use Rattle.reading.proofs.made.Made.gates.Given as goal

abbrev pub invariant-loop : goal.invariant-loop
invariant-loop l =
    (l.cursor.text ≡ l.initial.cursor.text)
    × (gates_at l.initial.cursor.text.now (length l.initial.self.table.now) (l.gates - l.counter) (wires_of l.self) l.cursor.at ≡ gates_at l.initial.cursor.text.now (length l.initial.self.table.now) l.gates (wires_of l.initial.self) l.initial.cursor.at)
    × Lasts l.initial.self l.self
