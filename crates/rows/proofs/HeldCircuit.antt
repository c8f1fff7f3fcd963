-- The circuit that a memory holds.
use Rattle.std.proofs.Common.{Bool, true, false, cond, eqb, ◌≡◌, ℕ, zero, suc, ◌+◌, ◌<◌, List, [], ◌∷◌, length, get_or, drop, sym, refl, ap, ◌∙◌, subst, ap₂, arith, get_or-drop}
use Rattle.circuits.specs.declared.making.Making.{Making}
use Rattle.circuits.specs.declared.making.Making.TheVariants.{Constant}
use Rattle.rows.specs.declared.held.Kind.TheVariants as kind
use Rattle.circuits.specs.Circuits.{Feeds}
use Rattle.routes.specs.Routes.{at, Ordered}
use Rattle.rows.specs.Rows.{Room, row_of, cell, Only}
use Rattle.rows.specs.Held.{making, making_of, kind_of, makings, circuit_of}
use Rattle.rows.proofs.Cells.{row_length}

-- a number means what its kind does
pub decoded_is : (k a b : ℕ) → making_of (kind_of k) a b ≡ making k a b
decoded_is zero a b = refl
decoded_is (suc zero) a b = refl
decoded_is (suc (suc zero)) a b = refl
decoded_is (suc (suc (suc zero))) a b = refl
decoded_is (suc (suc (suc (suc zero)))) a b = refl
decoded_is (suc (suc (suc (suc (suc k))))) a b = by_last (eqb k 1)
  where
    by_last : (t : Bool) → making_of (cond t kind.True kind.False) a b ≡ Constant t
    by_last true = refl
    by_last false = refl

pub makings_at : (ks xs ys : List ℕ) (w : ℕ) → at (makings ks xs ys) w ≡ making (get_or ks w 0) (get_or xs w 0) (get_or ys w 0)
unfolding makings
makings_at [] xs ys w = refl
makings_at (k ∷ ks) xs ys zero = refl
makings_at (k ∷ ks) xs ys (suc w) =
    makings_at ks (drop 1 xs) (drop 1 ys) w ∙ ap₂ (making (get_or ks w 0)) (get_or-drop 1 xs w 0 ∙ ap (λ i. get_or xs i 0) (one w)) (get_or-drop 1 ys w 0 ∙ ap (λ i. get_or ys i 0) (one w))
  where
    one : (w : ℕ) → 1 + w ≡ suc w
    one w = omega arith

pub makings_length : (ks xs ys : List ℕ) → length (makings ks xs ys) ≡ length ks
unfolding makings
makings_length [] xs ys = refl
makings_length (k ∷ ks) xs ys = ap suc (makings_length ks (drop 1 xs) (drop 1 ys))

pub circuit_at : (m : List ℕ) (n w : ℕ) → at (circuit_of m n) w ≡ making (cell m n 0 w) (cell m n 1 w) (cell m n 2 w)
circuit_at m n w = makings_at (row_of m n 0) (row_of m n 1) (row_of m n 2) w

pub circuit_length : (m : List ℕ) (n : ℕ) → Room n m → length (circuit_of m n) ≡ n
circuit_length m n room = makings_length (row_of m n 0) (row_of m n 1) (row_of m n 2) ∙ row_length n m room 0 (omega arith)

-- the circuit stays where rows 0 to 2 do
pub circuit_same : (R : ℕ → Type 0) (n : ℕ) (m m' : List ℕ) → ((r : ℕ) → r < 3 → R r → ⊥) → Only R n m m' → circuit_of m' n ≡ circuit_of m n
circuit_same R n m m' off o = λ i. makings (o 0 (off 0 (omega arith)) i) (o 1 (off 1 (omega arith)) i) (o 2 (off 2 (omega arith)) i)

-- the operands of a wire that is read off the memory
pub feeds_held : (m : List ℕ) (n : ℕ) → Room n m → Ordered (circuit_of m n) → (w : ℕ) → w < n → (how : Making) → how ≡ at (circuit_of m n) w → Feeds w how
feeds_held m n room ordered w h how e = subst (Feeds w) (sym e) (ordered w (omega (arith, circuit_length m n room)))
