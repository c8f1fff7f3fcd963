-- What a circuit is: its makings and names by rank, with its counts of inputs and outputs.
use Rattle.std.specs.Prelude.{◌≡◌, ℕ, ◌+◌, ◌<◌, ◌≤◌, Bool, true, false, cond, List, [], ◌∷◌, length, Some, None, Option, ◌==◌, slice_index, slice_index_or}
use Rattle.circuits.specs.declared.making.Making.{Making}
use Rattle.circuits.specs.declared.making.Making.TheVariants.{Input, Constant, Copy, Inversion, Sum, Product}

pub record Meaning : Type 0 where
  pub makings : List Making
  pub names : List ℕ
  pub inputs : ℕ
  pub outputs : ℕ

abbrev pub width : Meaning → ℕ
width m = length m.makings

-- the place of the first x of a list, counted from i
abbrev pub place_from : ℕ → ℕ → List ℕ → Option ℕ
place_from i x [] = None
place_from i x (y ∷ ys) = cond (y == x) (Some i) (place_from (i + 1) x ys)

abbrev pub place : ℕ → List ℕ → Option ℕ
place x ys = place_from 0 x ys

abbrev pub is_input : Making → Bool
is_input Input = true
is_input (Constant b) = false
is_input (Copy a) = false
is_input (Inversion a) = false
is_input (Sum a b) = false
is_input (Product a b) = false

-- each operand has a rank below k
abbrev pub Feeds : ℕ → Making → Type 0
Feeds k Input = Unit {0}
Feeds k (Constant b) = Unit {0}
Feeds k (Copy a) = a < k
Feeds k (Inversion a) = a < k
Feeds k (Sum a b) = (a < k) × (b < k)
Feeds k (Product a b) = (a < k) × (b < k)

pub record Lawful (m : Meaning) : Type 0 where
  pub some : 1 ≤ width m
  pub most : width m ≤ 1048576
  pub named : length m.names ≡ width m
  pub inputs_fit : m.inputs ≤ width m
  pub outputs_fit : m.outputs ≤ width m
  pub inputs_first : (k : ℕ) → k < m.inputs → is_input (slice_index_or m.makings k Input) ≡ true
  pub inputs_only : (k : ℕ) → m.inputs ≤ k → k < width m → is_input (slice_index_or m.makings k Input) ≡ false
  pub inputs_named : (k : ℕ) → k < m.inputs → slice_index m.names k ≡ k
  pub fed : (k : ℕ) → k < width m → Feeds k (slice_index_or m.makings k Input)
  pub names_below : (k : ℕ) → k < width m → slice_index m.names k < width m
  pub names_apart : (j k : ℕ) → j < width m → k < width m → slice_index m.names j ≡ slice_index m.names k → j ≡ k
