-- The wires that each wire feeds, as lists one after another in the memory.
use Rattle.std.specs.Prelude.{◌≡◌, ℕ, zero, suc, ◌+◌, ◌*◌, ◌<◌, cond, ◌↔◌, List, [], ◌∷◌, ◌++◌, length, Some, None, Option, ◌==◌, slice_index}
use Rattle.circuits.specs.declared.making.Making.{Making}
use Rattle.circuits.specs.declared.making.Making.TheVariants.{Input, Constant, Copy, Inversion, Sum, Product}
use Rattle.routes.specs.Routes.{at, Ends, IsProduct, Operand}
use Rattle.routes.specs.Sums.{sum_of, ranks}
use Rattle.rows.specs.Rows.{cell, Between}
use Rattle.rows.specs.Held.{circuit_of}

-- w where v is the operand a, and else nothing
abbrev pub one_use : ℕ → ℕ → ℕ → List ℕ
one_use w a v = cond (v == a) (w ∷ []) []

-- the same of an operand that may be absent
abbrev pub maybe_use : ℕ → Option ℕ → ℕ → List ℕ
maybe_use w None v = []
maybe_use w (Some a) v = one_use w a v

-- w once for each operand through which it passes v on
abbrev pub uses : Making → ℕ → ℕ → List ℕ
uses Input w v = []
uses (Constant b) w v = []
uses (Copy a) w v = one_use w a v
uses (Inversion a) w v = one_use w a v
uses (Sum a b) w v = one_use w a v ++ one_use w b v
uses (Product a b) w v = []

-- the wires below a rank that v feeds, by rank
abbrev pub fed_below : List Making → ℕ → ℕ → List ℕ
fed_below c zero v = []
fed_below c (suc w) v = fed_below c w v ++ uses (at c w) w v

-- all wires that v feeds
abbrev pub fed : List Making → ℕ → List ℕ
fed c v = fed_below c (length c) v

-- where the list of v begins: after the lists of all lower wires
abbrev pub begins : List Making → ℕ → ℕ
begins c v = sum_of (λ u. length (fed c u)) (ranks v)

-- row 5 has where each list begins, and rows 6 and 7 the lists
pub record Lists (c : List Making) (n : ℕ) (m : List ℕ) : Type 0 where
  pub starts : (v : ℕ) → v < n → cell m n 5 v ≡ begins c v
  pub wires : (v i : ℕ) → v < n → i < length (fed c v) → slice_index m (6 * n + (begins c v + i)) ≡ slice_index (fed c v) i

-- v is an operand of some product below a rank
abbrev pub EndsBelow : List Making → ℕ → ℕ → Type 0
EndsBelow c k v = (u : ℕ) × (u < k) × IsProduct c u × Operand c u v

-- row 4 flags the operands of products below a rank
abbrev pub Flagged : List Making → ℕ → List ℕ → ℕ → Type 0
Flagged c n m k = (v : ℕ) → v < n → (0 < cell m n 4 v) ↔ EndsBelow c k v

-- the memory holds the circuit, with its flags and its lists
pub record Loaded (c : List Making) (n : ℕ) (m : List ℕ) : Type 0 where
  pub circuit : circuit_of m n ≡ c
  pub goals : (v : ℕ) → (0 < cell m n 4 v) ↔ Ends c v
  pub lists : Lists c n m

-- the memory holds the circuit, with no bar, and no unit of a flow
pub record FreshLoad (c : List Making) (n : ℕ) (m : List ℕ) : Type 0 where
  pub loaded : Loaded c n m
  pub no_bars : (w : ℕ) → cell m n 3 w ≡ 0
  pub no_units : (r w : ℕ) → Between 8 12 r → cell m n r w ≡ 0
