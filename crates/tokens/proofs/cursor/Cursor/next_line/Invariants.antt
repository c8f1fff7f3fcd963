use Rattle.std.proofs.Common.{◌≡◌, ◌+◌, ◌≤◌, length, drop}
use Rattle.std.specs.List.{prefix_len}
use Rattle.tokens.specs.Places.{line_of}
use Rattle.tokens.specs.Headers.{gap, line_start}
use Rattle.tokens.proofs.cursor.Cursor.next_line.Given as goal

abbrev pub invariant-loop-b : goal.invariant-loop-b
invariant-loop-b l =
    let text = l.self.text.now in
    (l.at ≤ length text)
    × (l.line ≡ line_of text l.at)
    × (drop l.b-index l.b-items ≡ drop l.at text)
    × (l.at + prefix_len gap (drop l.at text) ≡ line_start text l.self.at)
