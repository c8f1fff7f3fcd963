use Rattle.std.proofs.Common.{◌≡◌}
use Rattle.reading.specs.Texts.{inputs}
use Rattle.reading.specs.Memory.{Lasts, wires_of}
use Rattle.reading.proofs.made.Made.of_inputs.Given as goal

abbrev pub invariant-loop-name : goal.invariant-loop-name
invariant-loop-name l = (l.made.count ≡ l.name) × (wires_of l.made ≡ inputs l.made.count) × Lasts l.initial.made l.made
