use Rattle.std.proofs.Common.{◌≡◌, ◌+◌, length, drop}
use Rattle.tokens.specs.Lines.{gate_of}
use Rattle.reading.specs.Texts.{line_makes}
use Rattle.reading.specs.Memory.{Lasts, wires_of}
use Rattle.reading.proofs.Sides.{Inner, Ready, side_run, sides}
use Rattle.reading.proofs.made.Made.line.Given as goal

-- some wires of a side are passed, and what is left comes to what the line comes to
abbrev pub invariant-loop : goal.invariant-loop
invariant-loop l =
    let text = l.start.text.now in
    let count = length l.fn.self.table.now in
    let before = wires_of l.fn.self in
    (l.wires.text ≡ l.start.text) × (l.left.text ≡ l.start.text) × (l.right.text ≡ l.start.text)
    × Inner text count l.line before l.fn.self.count l.self.count l.side l.counter l.wires.at l.left.at l.right.at l.self.table.now l.self.ranks.now
    × (side_run text count l.line before l.side l.counter (wires_of l.self) (sides text count l.line before (drop (l.side-index + 1) l.side-items)) ≡ line_makes text count before (gate_of text l.line))
    × Lasts l.fn.self l.self

abbrev pub invariant-loop-side : goal.invariant-loop-side
invariant-loop-side l =
    let text = l.start.text.now in
    let count = length l.fn.self.table.now in
    let before = wires_of l.fn.self in
    (l.wires.text ≡ l.start.text) × (l.left.text ≡ l.start.text) × (l.right.text ≡ l.start.text)
    × Ready text count l.line before l.fn.self.count l.self.count (drop l.side-index l.side-items) l.wires.at l.left.at l.right.at l.self.table.now l.self.ranks.now
    × (sides text count l.line before (drop l.side-index l.side-items) (wires_of l.self) ≡ line_makes text count before (gate_of text l.line))
    × Lasts l.fn.self l.self
