-- The wires that a gate line may name, by the ranks in memory.
use Rattle.std.specs.Prelude.{ℕ, Bool, not, ◌&&◌, ◌||◌, List, length, nat_le, nat_lt, slice_index}
use Rattle.circuits.specs.declared.answer.Refusal.{Refusal}
use Rattle.circuits.specs.declared.answer.Refusal.TheVariants.{BadInput, BadResult}
use Rattle.tokens.specs.declared.gate.Gate.{Gate}
use Rattle.tokens.specs.declared.gate.Gate.TheVariants.{Product, Sum, Inversion, Constant, Copy}
use Rattle.tokens.specs.declared.line.GateLine.{GateLine}
use Rattle.reading.specs.declared.wires.Side.{Side}
use Rattle.reading.specs.declared.wires.Side.TheVariants.{In, Out}

-- there are as many ranks as wires, and the rank of a made wire is below that
abbrev pub has_rank : List ℕ → ℕ → Bool
has_rank ranks n = nat_lt n (length ranks) && nat_lt (slice_index ranks n) (length ranks)

-- an input that is not made; a result past the wires, or made
abbrev pub offends : Side → List ℕ → ℕ → Bool
offends In ranks n = not (has_rank ranks n)
offends Out ranks n = nat_le (length ranks) n || has_rank ranks n

-- the same, but the input of a constant is its value
abbrev pub refused : Gate → Side → List ℕ → ℕ → Bool
refused Constant In ranks n = nat_lt 1 n
refused Constant Out ranks n = offends Out ranks n
refused Product s ranks n = offends s ranks n
refused Sum s ranks n = offends s ranks n
refused Inversion s ranks n = offends s ranks n
refused Copy s ranks n = offends s ranks n

-- an input is refused by 7, a result by 8
abbrev pub side_refusal : Side → Refusal
side_refusal In = BadInput
side_refusal Out = BadResult

-- how many wires a side of a gate line has
abbrev pub count_of : GateLine → Side → ℕ
count_of g In = g.inputs
count_of g Out = g.results
