-- Wires, rows and routes. A circuit is the list of its makings, by rank.
use Rattle.std.specs.Prelude.{◌≡◌, ℕ, ◌<◌, Bool, true, false, ◌⊎◌, List, [], ◌∷◌, length, slice_index_or}
use Rattle.circuits.specs.Circuits.{Meaning, Lawful, Feeds}
use Rattle.circuits.specs.declared.making.Making.{Making}
use Rattle.circuits.specs.declared.making.Making.TheVariants.{Input, Constant, Copy, Inversion, Sum, Product}

-- how the wire at a rank is made; past the last rank there are inputs only
abbrev pub at : List Making → ℕ → Making
at c w = slice_index_or c w Input

-- v is an operand of a wire made so
abbrev pub Takes : Making → ℕ → Type 0
Takes Input v = ⊥
Takes (Constant b) v = ⊥
Takes (Copy a) v = v ≡ a
Takes (Inversion a) v = v ≡ a
Takes (Sum a b) v = (v ≡ a) ⊎ (v ≡ b)
Takes (Product a b) v = (v ≡ a) ⊎ (v ≡ b)

-- a wire made so is a product
abbrev pub Multiplies : Making → Type 0
Multiplies Input = ⊥
Multiplies (Constant b) = ⊥
Multiplies (Copy a) = ⊥
Multiplies (Inversion a) = ⊥
Multiplies (Sum a b) = ⊥
Multiplies (Product a b) = Unit {0}

-- a wire made so is a copy, an inversion or a sum with the operand v
abbrev pub PassesOn : Making → ℕ → Type 0
PassesOn Input v = ⊥
PassesOn (Constant b) v = ⊥
PassesOn (Copy a) v = v ≡ a
PassesOn (Inversion a) v = v ≡ a
PassesOn (Sum a b) v = (v ≡ a) ⊎ (v ≡ b)
PassesOn (Product a b) v = ⊥

-- v is an operand of w
abbrev pub Operand : List Making → ℕ → ℕ → Type 0
Operand c w v = Takes (at c w) v

-- w is a product
abbrev pub IsProduct : List Making → ℕ → Type 0
IsProduct c w = Multiplies (at c w)

-- w is a copy, an inversion or a sum with the operand v
abbrev pub Passes : List Making → ℕ → ℕ → Type 0
Passes c w v = PassesOn (at c w) v

-- each operand has a lower rank than its wire
abbrev pub Ordered : List Making → Type 0
Ordered c = (w : ℕ) → w < length c → Feeds w (at c w)

-- a set of wires, as a test of the rank
abbrev pub Wires : Type 0
Wires = ℕ → Bool

-- each wire of the list passes on the one before it, the first of them v
abbrev pub Joined : List Making → ℕ → List ℕ → Type 0
Joined c v [] = Unit {0}
Joined c v (w ∷ ws) = Passes c w v × Joined c w ws

-- the last wire of a row that begins at v
abbrev pub last : ℕ → List ℕ → ℕ
last v [] = v
last v (w ∷ ws) = last w ws

-- v is an operand of some product
abbrev pub Ends : List Making → ℕ → Type 0
Ends c v = (u : ℕ) × IsProduct c u × Operand c u v

-- a row from a product to an operand of some product, each later wire of which passes on the one before it
abbrev pub Route : List Making → List ℕ → Type 0
Route c [] = ⊥
Route c (w ∷ ws) = IsProduct c w × Joined c w ws × Ends c (last w ws)

-- the set has a wire of the row
abbrev pub Hits : Wires → List ℕ → Type 0
Hits p [] = ⊥
Hits p (w ∷ ws) = (p w ≡ true) ⊎ Hits p ws

-- some row from a product to the wire, itself counted, has no wire of the set
pub data Ahead (c : List Making) (p : Wires) : ℕ → Type 0 where
  starts : {w : ℕ} → IsProduct c w → p w ≡ false → Ahead c p w
  goes_on : {v w : ℕ} → Ahead c p v → Passes c w v → p w ≡ false → Ahead c p w

-- the makings of a lawful circuit are ordered
abbrev pub LawfulIsOrdered : Type 0
LawfulIsOrdered = (m : Meaning) → Lawful m → Ordered m.makings
