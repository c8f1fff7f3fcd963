use Rattle.std.proofs.Common.{◌≡◌, ◌-◌, ◌≤◌}
use Rattle.tokens.specs.Headers.{widths_at}
use Rattle.tokens.proofs.cursor.Cursor.widths.Given as goal

abbrev pub invariant-loop : goal.invariant-loop
invariant-loop l =
    (l.sum ≤ l.wires) × (l.self.text ≡ l.initial.self.text) × (widths_at l.initial.self.text.now l.wires (l.k - l.counter) l.sum l.self.at ≡ widths_at l.initial.self.text.now l.wires l.k 0 l.initial.self.at)
