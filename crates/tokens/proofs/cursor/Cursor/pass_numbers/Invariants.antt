use Rattle.std.proofs.Common.{◌≡◌, ◌-◌}
use Rattle.tokens.specs.Lines.{pass_at}
use Rattle.tokens.proofs.cursor.Cursor.pass_numbers.Given as goal

abbrev pub invariant-loop : goal.invariant-loop
invariant-loop l = (pass_at l.initial.self.text.now (l.k - l.counter) l.self.at ≡ pass_at l.initial.self.text.now l.k l.initial.self.at) × (l.self.text ≡ l.initial.self.text)
