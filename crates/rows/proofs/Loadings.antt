-- How a circuit comes into the memory.
use Rattle.std.proofs.Common.{◌≡◌, ℕ, ◌+◌, ◌^◌, ◌<◌, ◌≤◌, Bool, true, false, cond, eqb, ◌⊎◌, List, [], ◌∷◌, ◌++◌, length, get_or, Some, None, Option, sym, refl, ap, ◌∙◌, subst, inl, inr, ⊎_elim, append_assoc, add-one, arith, ext_get_or}
use Rattle.std.proofs.lemmas.List.{length-append}
use Rattle.std.proofs.lemmas.Bool.{cases_eq, eq-eqb, ne_eqb}
use Rattle.circuits.specs.declared.making.Making.{Making}
use Rattle.circuits.specs.declared.making.Making.TheVariants.{Input, Constant, Copy, Inversion, Sum, Product}
use Rattle.routes.specs.Routes.{at, Takes, Multiplies, IsProduct, Operand, Ordered}
use Rattle.routes.proofs.Sums.{last_or_lower}
use Rattle.routes.proofs.Wires.{operand_lower}
use Rattle.rows.specs.Rows.{Room, cell, written, Between, Only}
use Rattle.rows.specs.Held.{making, circuit_of}
use Rattle.rows.specs.Fed.{maybe_use, fed_below, fed, EndsBelow, Flagged}
use Rattle.rows.specs.Loading.{held_at, Put, Family, with_use, Passed, Counted, Countable}
use Rattle.rows.proofs.Cells.{room_written, cell_here, cell_written, cell_other, cell_else, only_then, only_written}
use Rattle.rows.proofs.Feeding.{below_grows, begins_few}
use Rattle.rows.proofs.HeldCircuit.{circuit_at, circuit_length}

-- one wire
module _ (n : ℕ) (m : List ℕ) (room : Room n m) (w k a b : ℕ) (h : w < n) where
  abbrev first : List ℕ
  first = written m n 0 w k

  abbrev second : List ℕ
  second = written first n 1 w a

  abbrev third : List ℕ
  third = written second n 2 w b

  kinds : (u : ℕ) → cell third n 0 u ≡ cell first n 0 u
  kinds u = cell_else second n 2 w b 0 h (λ e. omega arith) u ∙ cell_else first n 1 w a 0 h (λ e. omega arith) u

  firsts : (u : ℕ) → cell third n 1 u ≡ cell second n 1 u
  firsts u = cell_else second n 2 w b 1 h (λ e. omega arith) u

  room₁ : Room n first
  room₁ = room_written m n 0 w k room

  room₂ : Room n second
  room₂ = room_written first n 1 w a room₁

  pub put_made : (how : Making) → making k a b ≡ how → Put n m third w how
  put_made how e =
      record {
        here = (λ i. making ((kinds w ∙ cell_written m n 0 w k room (omega arith) h) i) ((firsts w ∙ cell_written first n 1 w a room₁ (omega arith) h) i) (cell_written second n 2 w b room₂ (omega arith) h i)) ∙ e;
        others = λ u ne. λ i. making
            ((kinds u ∙ cell_other m n 0 w k room (omega arith) h u ne) i)
            ((firsts u ∙ cell_other first n 1 w a room₁ (omega arith) h u ne ∙ cell_else m n 0 w k 1 h (λ e. omega arith) u) i)
            ((cell_other second n 2 w b room₂ (omega arith) h u ne ∙ cell_else first n 1 w a 2 h (λ e. omega arith) u ∙ cell_else m n 0 w k 2 h (λ e. omega arith) u) i);
      }

-- the wires below k are those of the list
abbrev pub Copied : ℕ → List ℕ → List Making → ℕ → Type 0
Copied n m ms k = (u : ℕ) → u < k → held_at m n u ≡ get_or ms u Input

pub copied_more : (n : ℕ) (m m' : List ℕ) (ms : List Making) (w : ℕ) (how : Making) → Copied n m ms w → Put n m m' w how → how ≡ get_or ms w Input → Copied n m' ms (w + 1)
copied_more n m m' ms w how all put e u h =
    ⊎_elim (λ (s : u ≡ w). ap (held_at m' n) s ∙ put.here ∙ e ∙ ap (λ i. get_or ms i Input) (sym s))
    (λ (ne : u ≡ w → ⊥). put.others u ne ∙ all u (lower u ne h)) (cases_eq u w)
  where
    lower : (u : ℕ) → (u ≡ w → ⊥) → u < w + 1 → u < w
    lower u ne h = omega arith

pub copied_all : (n : ℕ) (m : List ℕ) (ms : List Making) → Room n m → length ms ≡ n → Copied n m ms n → circuit_of m n ≡ ms
copied_all n m ms room long all =
    ext_get_or Input (circuit_of m n) ms (circuit_length m n room ∙ sym long) (λ u h. circuit_at m n u ∙ all u (omega (arith, circuit_length m n room)))

-- the flags of goals
below_next : (c : List Making) (k v : ℕ) → EndsBelow c k v → EndsBelow c (k + 1) v
below_next c k v e = (e.0, omega (arith, e.1), e.2, e.3)

pub no_product : (how : Making) → ((a b : ℕ) → how ≡ Product a b → ⊥) → Multiplies how → ⊥
no_product Input not f = f
no_product (Constant b) not f = f
no_product (Copy a) not f = f
no_product (Inversion a) not f = f
no_product (Sum a b) not f = f
no_product (Product a b) not f = not a b refl

pub flagged_none : (c : List Making) (n : ℕ) (m : List ℕ) (k : ℕ) → (IsProduct c k → ⊥) → Flagged c n m k → Flagged c n m (k + 1)
flagged_none c n m k not f v h = (
  λ l. below_next c k v ((f v h).0 l),
  λ e. ⊎_elim (λ (s : e.0 ≡ k). absurd (not (subst (IsProduct c) s e.2))) (λ (l : e.0 < k). (f v h).1 (e.0, l, e.2, e.3)) (last_or_lower e.0 k (omega (arith, e.1))),
)

module _ (c : List Making) (n : ℕ) (m : List ℕ) (room : Room n m) (k a b : ℕ) (made : at c k ≡ Product a b) (ha : a < n) (hb : b < n) where
  abbrev once : List ℕ
  once = written m n 4 a 1

  abbrev twice : List ℕ
  twice = written once n 4 b 1

  flag_is : (v : ℕ) → cell twice n 4 v ≡ cond (eqb v b) 1 (cond (eqb v a) 1 (cell m n 4 v))
  flag_is v =
      cell_here once n 4 b 1 (room_written m n 4 a 1 room) (omega arith) hb v
      ∙ ap (cond (eqb v b) 1) (cell_here m n 4 a 1 room (omega arith) ha v)

  product : IsProduct c k
  product = subst Multiplies (sym made) tt

  operand : (v : ℕ) → (v ≡ a) ⊎ (v ≡ b) → Operand c k v
  operand v e = subst (λ x. Takes x v) (sym made) e

  pub flagged_product : Flagged c n m k → Flagged c n twice (k + 1)
  flagged_product f v h =
      ⊎_elim
      (λ (eb : v ≡ b).
      let on : cell twice n 4 v ≡ 1 = flag_is v ∙ ap (λ t. cond t 1 (cond (eqb v a) 1 (cell m n 4 v))) (eq-eqb v b eb) in
      ((λ _. (k, omega arith, product, operand v (inr eb))), (λ _. omega (arith, on))))
      (λ (nb : v ≡ b → ⊥).
      let off : cell twice n 4 v ≡ cond (eqb v a) 1 (cell m n 4 v) = flag_is v ∙ ap (λ t. cond t 1 (cond (eqb v a) 1 (cell m n 4 v))) (ne_eqb v b nb) in
      ⊎_elim
      (λ (ea : v ≡ a). let on : cell twice n 4 v ≡ 1 = off ∙ ap (λ t. cond t 1 (cell m n 4 v)) (eq-eqb v a ea) in
      ((λ _. (k, omega arith, product, operand v (inl ea))), (λ _. omega (arith, on))))
      (λ (na : v ≡ a → ⊥). let same : cell twice n 4 v ≡ cell m n 4 v = off ∙ ap (λ t. cond t 1 (cell m n 4 v)) (ne_eqb v a na) in (
        (λ l. below_next c k v ((f v h).0 (omega (arith, same)))),
        (λ e. ⊎_elim
            (λ (s : e.0 ≡ k). absurd (⊎_elim na nb (subst (λ x. Takes x v) (ap (at c) s ∙ made) e.3)))
            (λ (l : e.0 < k). omega (arith, same, (f v h).1 (e.0, l, e.2, e.3)))
            (last_or_lower e.0 k (omega (arith, e.1)))),
      ))
      (cases_eq v a))
      (cases_eq v b)

  pub flagged_rest : Only (Between 4 4) n m twice
  flagged_rest =
      only_then (Between 4 4) n m once twice (only_written (Between 4 4) n m 4 a 1 ha (omega arith, omega arith)) (only_written (Between 4 4) n once 4 b 1 hb (omega arith, omega arith))

-- counts
one_more : (t : Bool) (w : ℕ) (xs : List ℕ) → length (xs ++ cond t (w ∷ []) []) ≡ cond t (length xs + 1) (length xs)
one_more true w xs = length-append xs (w ∷ [])
one_more false w xs = length-append xs [] ∙ omega arith

pub counted_use : (n : ℕ) (m : List ℕ) (L : Family) (a w : ℕ) → Room n m → a < n → Counted n m L → Counted n (written m n 5 a (cell m n 5 a + 1)) (with_use L (Some a) w)
counted_use n m L a w room h all v l =
    cell_here m n 5 a (cell m n 5 a + 1) room (omega arith) h v
    ∙ ⊎_elim
    (λ (e : v ≡ a). ap (λ t. cond t (cell m n 5 a + 1) (cell m n 5 v)) (eq-eqb v a e) ∙ ap (λ u. cell m n 5 u + 1) (sym e) ∙ ap (λ k. k + 1) (all v l)
    ∙ sym (one_more (eqb v a) w (L v) ∙ ap (λ t. cond t (length (L v) + 1) (length (L v))) (eq-eqb v a e)))
    (λ (ne : v ≡ a → ⊥). ap (λ t. cond t (cell m n 5 a + 1) (cell m n 5 v)) (ne_eqb v a ne) ∙ all v l
    ∙ sym (one_more (eqb v a) w (L v) ∙ ap (λ t. cond t (length (L v) + 1) (length (L v))) (ne_eqb v a ne)))
    (cases_eq v a)

pub countable : (n : ℕ) (m : List ℕ) (L : Family) (o : Option ℕ) → Counted n m L → ((a : ℕ) → o ≡ Some a → (a < n) × (length (L a) + 1 < 2 ^ 32)) → Countable n m o
countable n m L None all h = tt
countable n m L (Some a) all h = let p = h a refl in (p.0, omega (arith, p.1, all a p.0))

-- what a wire adds to the lists
module _ (c : List Making) (w : ℕ) (first second : Option ℕ) (p : Passed (at c w) first second) where
  pub next_fed : (v : ℕ) → with_use (with_use (fed_below c w) first w) second w v ≡ fed_below c (w + 1) v
  next_fed v =
      append_assoc (fed_below c w v) (maybe_use w first v) (maybe_use w second v)
      ∙ ap (λ xs. fed_below c w v ++ xs) (sym (p.uses_are w v)) ∙ ap (λ k. fed_below c k v) (sym (add-one w))

  long_next : (v : ℕ) → length (with_use (with_use (fed_below c w) first w) second w v) ≡ length (with_use (fed_below c w) first w v) + length (maybe_use w second v)
  long_next v = length-append (with_use (fed_below c w) first w v) (maybe_use w second v)

  module _ (n : ℕ) (long : length c ≡ n) (h : w < n) where
    pub next_within : (v : ℕ) → length (with_use (with_use (fed_below c w) first w) second w v) ≤ length (fed c v)
    next_within v = omega (arith, ap length (next_fed v), below_grows c v (w + 1) (length c) (omega arith))

    pub first_within : (v : ℕ) → length (with_use (fed_below c w) first w v) ≤ length (fed c v)
    first_within v = omega (arith, next_within v, long_next v)

    module _ (few : n ≤ 2 ^ 20) (ordered : Ordered c) where
      lists_few : (v : ℕ) → v < n → length (fed c v) + 1 < 2 ^ 32
      lists_few v l = omega (arith, begins_few c v (omega arith))

      pub first_few : (a : ℕ) → first ≡ Some a → (a < n) × (length (fed_below c w a) + 1 < 2 ^ 32)
      first_few a e =
          let l : a < n = omega (arith, operand_lower c ordered w a (p.takes a (inl e))) in
          (l, omega (arith, lists_few a l, below_grows c a w (length c) (omega arith)))

      pub second_few : (a : ℕ) → second ≡ Some a → (a < n) × (length (with_use (fed_below c w) first w a) + 1 < 2 ^ 32)
      second_few a e =
          let l : a < n = omega (arith, operand_lower c ordered w a (p.takes a (inr e))) in
          (l, omega (arith, lists_few a l, first_within a))

pub counted_same : (n : ℕ) (m : List ℕ) (L M : Family) → ((v : ℕ) → L v ≡ M v) → Counted n m L → Counted n m M
counted_same n m L M e all v h = all v h ∙ ap length (e v)
