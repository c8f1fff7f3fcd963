-- A table of entries by rank, with the ranks by name, and the test that it keeps the laws.
use Rattle.std.specs.Prelude.{◌≡◌, ℕ, ◌+◌, ◌<◌, Bool, true, cond, not, ◌&&◌, List, [], ◌∷◌, map, length, ◌==◌, nat_le, nat_lt, slice_index}
use Rattle.circuits.specs.Circuits.{Meaning, Lawful, is_input}
use Rattle.circuits.specs.declared.making.Making.{Making}
use Rattle.circuits.specs.declared.making.Making.TheVariants.{Input, Constant, Copy, Inversion, Sum, Product}
use Rattle.circuits.specs.declared.making.Entry.{Entry}

abbrev pub makings_of : List Entry → List Making
makings_of es = map (λ e. e.making) es

abbrev pub names_of : List Entry → List ℕ
names_of es = map (λ e. e.name) es

abbrev pub tabled : List Entry → ℕ → ℕ → Meaning
tabled es i o = record { makings = makings_of es; names = names_of es; inputs = i; outputs = o }

-- a lone input
abbrev pub lone : Meaning
lone = record { makings = Input ∷ []; names = 0 ∷ []; inputs = 1; outputs = 0 }

-- each operand has a rank below k
abbrev pub feeds : ℕ → Making → Bool
feeds k Input = true
feeds k (Constant b) = true
feeds k (Copy a) = nat_lt a k
feeds k (Inversion a) = nat_lt a k
feeds k (Sum a b) = nat_lt a k && nat_lt b k
feeds k (Product a b) = nat_lt a k && nat_lt b k

-- an input, named by its rank, exactly below i
abbrev pub placed : ℕ → ℕ → Entry → Bool
placed i k e = cond (nat_lt k i) (is_input e.making && e.name == k) (not (is_input e.making))

-- the entry at rank k keeps the laws, and its rank is found by its name
abbrev pub entry_fits : ℕ → List ℕ → ℕ → Entry → Bool
entry_fits i rs k e = placed i k e && (feeds k e.making && (nat_lt e.name (length rs) && slice_index rs e.name == k))

-- the rank found by the name n has that name
abbrev pub rank_fits : List ℕ → ℕ → ℕ → Bool
rank_fits ns n r = nat_lt r (length ns) && slice_index ns r == n

-- a test of each element and its place, counted from k
abbrev pub each : {X : Type 0} → (ℕ → X → Bool) → ℕ → List X → Bool
each p k [] = true
each p k (x ∷ xs) = p k x && each p (k + 1) xs

abbrev pub counts_fit : ℕ → ℕ → ℕ → ℕ → Bool
counts_fit w n i o = nat_le 1 w && (nat_le w 1048576 && (n == w && (nat_le i w && nat_le o w)))

abbrev pub table_fits : List Entry → List ℕ → ℕ → ℕ → Bool
table_fits es rs i o =
    counts_fit (length es) (length rs) i o && (each (entry_fits i rs) 0 es && each (rank_fits (names_of es)) 0 rs)

-- the table of a circuit: its meaning keeps the laws, and each name leads to the rank that has it
pub record Kept (es : List Entry) (rs : List ℕ) (i o : ℕ) : Type 0 where
  pub lawful : Lawful (tabled es i o)
  pub many : length rs ≡ length es
  pub ranks_below : (n : ℕ) → n < length rs → slice_index rs n < length es
  pub ranks_right : (n : ℕ) → n < length rs → slice_index (names_of es) (slice_index rs n) ≡ n
