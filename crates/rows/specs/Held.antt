-- The circuit and the bars that a memory holds.
use Rattle.std.specs.Prelude.{false, true, if◌then◌else◌, ℕ, zero, suc, List, [], ◌∷◌, drop, ◌==◌, nat_lt, slice_index}
use Rattle.circuits.specs.declared.making.Making.{Making}
use Rattle.circuits.specs.declared.making.Making.TheVariants.{Input, Constant, Copy, Inversion, Sum, Product}
use Rattle.rows.specs.declared.held.Kind.{Kind}
use Rattle.rows.specs.declared.held.Kind.TheVariants as kind
use Rattle.rows.specs.declared.rows.Rows.{Rows}
use Rattle.routes.specs.Routes.{Wires}
use Rattle.rows.specs.Rows.{row_of, cell}

-- how a wire is made, by the number of its kind and its operands
abbrev pub making : ℕ → ℕ → ℕ → Making
making zero a b = Input
making (suc zero) a b = Copy a
making (suc (suc zero)) a b = Inversion a
making (suc (suc (suc zero))) a b = Sum a b
making (suc (suc (suc (suc zero)))) a b = Product a b
making (suc (suc (suc (suc (suc k))))) a b = Constant (k == 1)

-- the kind of a number
abbrev pub kind_of : ℕ → Kind
kind_of zero = kind.Input
kind_of (suc zero) = kind.Copy
kind_of (suc (suc zero)) = kind.Inversion
kind_of (suc (suc (suc zero))) = kind.Sum
kind_of (suc (suc (suc (suc zero)))) = kind.Product
kind_of (suc (suc (suc (suc (suc k))))) = if k == 1 then kind.True else kind.False

-- how a wire of a kind is made of its operands
abbrev pub making_of : Kind → ℕ → ℕ → Making
making_of kind.Input a b = Input
making_of kind.Copy a b = Copy a
making_of kind.Inversion a b = Inversion a
making_of kind.Sum a b = Sum a b
making_of kind.Product a b = Product a b
making_of kind.False a b = Constant false
making_of kind.True a b = Constant true

-- from the kinds, the first operands and the second
unfoldable pub makings : List ℕ → List ℕ → List ℕ → List Making
makings [] xs ys = []
makings (k ∷ ks) xs ys = making k (slice_index xs 0) (slice_index ys 0) ∷ makings ks (drop 1 xs) (drop 1 ys)

-- the circuit of n wires in rows 0 to 2
abbrev pub circuit_of : List ℕ → ℕ → List Making
circuit_of m n = makings (row_of m n 0) (row_of m n 1) (row_of m n 2)

-- the circuit that rows hold
abbrev pub circuit_in : Rows → List Making
circuit_in s = circuit_of s.memory.now s.wires

-- the bars in row 3
abbrev pub bars_of : List ℕ → ℕ → Wires
bars_of m n w = nat_lt 0 (cell m n 3 w)

-- the bars that rows hold
abbrev pub bars_in : Rows → Wires
bars_in s = bars_of s.memory.now s.wires
