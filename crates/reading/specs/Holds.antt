-- How the two memories hold the wires made so far.
use Rattle.std.specs.Prelude.{◌≡◌, ℕ, zero, suc, ◌+◌, ◌*◌, ◌<◌, ◌≤◌, Bool, true, false, cond, List, length, take, Ok, Err, Result, ◌==◌, slice_index}
use Rattle.circuits.specs.declared.making.Entry.{Entry}
use Rattle.circuits.specs.declared.making.Making.{Making}
use Rattle.circuits.specs.declared.making.Making.TheVariants as making
use Rattle.tokens.specs.declared.fault.Fault.{Fault}
use Rattle.tokens.specs.declared.gate.Gate.{Gate}
use Rattle.tokens.specs.declared.gate.Gate.TheVariants.{Product, Sum, Inversion, Constant, Copy}
use Rattle.tokens.specs.declared.line.GateLine.{GateLine}
use Rattle.tokens.specs.declared.token.Numeral.{Numeral}
use Rattle.tokens.specs.Lines.{listed, numbers_at}
use Rattle.reading.specs.Texts.{rank, made}

-- how many names below a bound are made
abbrev pub many : List Entry → ℕ → ℕ
many es zero = 0
many es (suc k) = many es k + cond (made es k) 1 0

-- the table begins with the wires made so far; the ranks give each made name's rank, and the number of wires for the others
pub record Held (wires : ℕ) (es table : List Entry) (ranks : List ℕ) : Type 0 where
  pub rows : length table ≡ wires
  pub names : length ranks ≡ wires
  pub front : take (length es) table ≡ es
  pub known : (n : ℕ) → n < wires → made es n ≡ true → slice_index ranks n ≡ rank es n
  pub others : (n : ℕ) → n < wires → made es n ≡ false → slice_index ranks n ≡ wires
  pub below : (n : ℕ) → made es n ≡ true → n < wires
  pub all : many es wires ≡ length es

-- k wires are made, and the memories hold them
pub record Keeps (k : ℕ) (table : List Entry) (ranks : List ℕ) : Type 0 where
  pub room : k ≤ length table
  pub held : Held (length table) (take k table) table ranks

-- the number that was read, and where the reader stands then
abbrev pub got : Result (Numeral × ℕ) Fault → Numeral × ℕ
got (Ok p) = p
got (Err f) = (record { value = 0; at = 0 }, 0)

-- whether a wire is made of two others
abbrev pub two : Gate → Bool
two Product = true
two Sum = true
two Inversion = false
two Constant = false
two Copy = false

-- how a gate makes a wire of operands with these names, by the ranks in memory
abbrev pub making_in : Gate → List ℕ → ℕ → ℕ → Making
making_in Product ranks a b = making.Product (slice_index ranks a) (slice_index ranks b)
making_in Sum ranks a b = making.Sum (slice_index ranks a) (slice_index ranks b)
making_in Inversion ranks a b = making.Inversion (slice_index ranks a)
making_in Constant ranks a b = making.Constant (a == 1)
making_in Copy ranks a b = making.Copy (slice_index ranks a)

-- the numbers of a gate line stand in the text, and their counts suit its making
pub record Whole (text : List ℕ) (g : GateLine) : Type 0 where
  pub ins : numbers_at text g.inputs g.wires ≡ Ok (listed (numbers_at text g.inputs g.wires))
  pub outs : numbers_at text g.results (listed (numbers_at text g.inputs g.wires)).1 ≡ Ok (listed (numbers_at text g.results (listed (numbers_at text g.inputs g.wires)).1))
  pub counts : g.inputs ≡ cond (two g.rule.making) (2 * g.results) g.results

-- the wires that are made when a reading ends, or its fault
abbrev pub bodied : Result (Unit {0}) Fault → List Entry → Result (List Entry) Fault
bodied (Ok _) es = Ok es
bodied (Err f) es = Err f
