-- How the lists of the wires that each wire feeds come into the memory.
use Rattle.std.proofs.Common.{◌≡◌, ℕ, ◌+◌, ◌-◌, ◌*◌, ◌<◌, ◌≤◌, Bool, true, false, cond, eqb, List, [], ◌∷◌, ◌++◌, length, get_or, take, drop, set, Some, None, Option, sym, refl, ap, ◌∙◌, subst, inl, inr, ⊎_elim, add-one, arith, length-set, drop-set-lt}
use lib.Seq.{take-set-le, drop-set-add}
use Rattle.std.proofs.lemmas.List.{get_or-set_same, get_or-set_other, length-append, get_or_append_left, get_or_push}
use Rattle.std.proofs.lemmas.Bool.{cases_eq, cases_lt, cases_order, eq-eqb, ne_eqb}
use Rattle.circuits.specs.declared.making.Making.{Making}
use Rattle.routes.specs.Routes.{at, Ordered}
use Rattle.routes.proofs.Traces.{prefix_le}
use Rattle.routes.proofs.Wires.{operand_lower}
use Rattle.rows.specs.Rows.{Room, row_of, cell, written, Between, Only}
use Rattle.rows.specs.Fed.{one_use, maybe_use, fed_below, fed}
use Rattle.rows.specs.Loading.{Family, with_use, Passed, offset, Spaced, Filled, Placeable, FitsIn, ListRow, PlacedRow}
use Rattle.rows.proofs.Feeding.{below_few}
use Rattle.rows.proofs.Loadings.{first_within, next_within}
use Rattle.rows.proofs.Cells.{rows_apart, room_written, room_same, cell_here, cell_else, only_then, only_written}

-- where the lists begin
module _ (n : ℕ) (m : List ℕ) (room : Room n m) (A : Family) (k total : ℕ) (h : k < n) (s : Spaced n m A k) (e : total ≡ offset A k) where
  abbrev one : List ℕ
  one = written m n 5 k total

  abbrev two : List ℕ
  two = written one n 13 k total

  room₁ : Room n one
  room₁ = room_written m n 5 k total room

  starts_at : (v : ℕ) → cell two n 5 v ≡ cond (eqb v k) total (cell m n 5 v)
  starts_at v = cell_else one n 13 k total 5 h (λ x. omega arith) v ∙ cell_here m n 5 k total room (omega arith) h v

  next_at : (v : ℕ) → cell two n 13 v ≡ cond (eqb v k) total (cell m n 13 v)
  next_at v = cell_here one n 13 k total room₁ (omega arith) h v ∙ ap (cond (eqb v k) total) (cell_else m n 5 k total 13 h (λ x. omega arith) v)

  either : (f : ℕ → ℕ) → ((v : ℕ) → v < k → f v ≡ offset A v) → (v : ℕ) → v < k + 1 → cond (eqb v k) total (f v) ≡ offset A v
  either f below v l =
      ⊎_elim (λ (q : v ≡ k). ap (λ t. cond t total (f v)) (eq-eqb v k q) ∙ e ∙ ap (offset A) (sym q))
      (λ (ne : v ≡ k → ⊥). ap (λ t. cond t total (f v)) (ne_eqb v k ne) ∙ below v (lower v ne l)) (cases_eq v k)
    where
      lower : (v : ℕ) → (v ≡ k → ⊥) → v < k + 1 → v < k
      lower v ne l = omega arith

  apart : (v : ℕ) → k + 1 ≤ v → v ≡ k → ⊥
  apart v l q = omega arith

  pub spaced_more : Spaced n two A (k + 1)
  spaced_more =
      record {
        begun = λ v l. starts_at v ∙ either (cell m n 5) s.begun v l;
        next = λ v l. next_at v ∙ either (cell m n 13) s.next v l;
        left = λ v l b. starts_at v ∙ ap (λ t. cond t total (cell m n 5 v)) (ne_eqb v k (apart v l)) ∙ s.left v (omega arith) b;
      }

  pub spaced_rest : Only ListRow n m two
  spaced_rest =
      only_then ListRow n m one two (only_written ListRow n m 5 k total h (inl (omega arith, omega arith))) (only_written ListRow n one 13 k total h (inr refl))

  pub offset_more : total + cell m n 5 k ≡ offset A (k + 1)
  offset_more = omega (arith, e, s.left k (omega arith) h, ap (offset A) (add-one k))

-- the circuit lies in other rows
pub placed_circuit : (r : ℕ) → r < 3 → PlacedRow r → ⊥
placed_circuit r h f = ⊎_elim (λ b. omega (arith, b.0)) (λ e. omega arith) f

-- no list has a wire yet
pub filled_none : (n : ℕ) (m : List ℕ) (A : Family) → Spaced n m A n → Filled n m A (λ v. [])
filled_none n m A s = record { next = λ v h. s.next v h ∙ omega arith; wires = λ v i h l. absurd (omega arith) }

-- a write inside rows 6 and 7
fed_row_else : (m : List ℕ) (n p k q : ℕ) → p < 2 * n → (Between 6 7 q → ⊥) → row_of (set m (6 * n + p) k) n q ≡ row_of m n q
unfolding row_of
fed_row_else m n p k q h off =
    ⊎_elim
    (λ (l : q < 6). let past : n ≤ (6 * n + p) - q * n = omega (arith, rows_apart n q 6 l) in
    let same : 6 * n + p ≡ q * n + ((6 * n + p) - q * n) = omega (arith, rows_apart n q 6 l) in
    ap (λ i. take n (drop (q * n) (set m i k))) same
    ∙ ap (take n) (drop-set-add (q * n) m ((6 * n + p) - q * n) k)
    ∙ take-set-le n (drop (q * n) m) ((6 * n + p) - q * n) k past)
    (λ (l : 6 ≤ q). ⊎_elim
    (λ (g : 7 < q). ap (take n) (drop-set-lt (q * n) m (6 * n + p) k (omega (arith, rows_apart n 7 q g))))
    (λ (g : q ≤ 7). absurd (off (l, g))) (cases_lt 7 q))
    (cases_lt q 6)

module _ (n : ℕ) (m : List ℕ) (room : Room n m) (a w : ℕ) (ha : a < n) (low : cell m n 13 a < 2 * n) where
  abbrev put_in : List ℕ
  put_in = set m (6 * n + cell m n 13 a) w

  abbrev gone_on : List ℕ
  gone_on = written put_in n 13 a (cell m n 13 a + 1)

  pub room_in : Room n put_in
  room_in = room_same n m put_in (length-set m (6 * n + cell m n 13 a) w) room

  row_thirteen : (v : ℕ) → cell put_in n 13 v ≡ cell m n 13 v
  row_thirteen v = ap (λ xs. get_or xs v 0) (fed_row_else m n (cell m n 13 a) w 13 low (λ f. omega (arith, f.1)))

  pub placed_rest : Only PlacedRow n m gone_on
  placed_rest r off =
      only_written PlacedRow n put_in 13 a (cell m n 13 a + 1) ha (inr refl) r off
      ∙ fed_row_else m n (cell m n 13 a) w r low (λ f. off (inl f))

  module _ (A L : Family) (fits : FitsIn n A L (Some a)) (f : Filled n m A L) where
    here : cell m n 13 a ≡ offset A a + length (L a)
    here = f.next a ha

    longer : (v : ℕ) → length (with_use L (Some a) w v) ≡ length (L v) + cond (eqb v a) 1 0
    longer v = length-append (L v) (one_use w a v) ∙ ap (λ k. length (L v) + k) (one_long (eqb v a))
      where
        one_long : (t : Bool) → length (cond t (w ∷ []) []) ≡ cond t 1 0
        one_long true = refl
        one_long false = refl

    -- a place of a list is not the one that is written
    elsewhere : (v i : ℕ) → v < n → i < length (L v) → offset A v + i ≡ cell m n 13 a → ⊥
    elsewhere v i hv l e =
        ⊎_elim (λ (q : v ≡ a). omega (arith, here, ap (offset A) q, ap (λ u. length (L u)) q))
        (⊎_elim
        (λ (g : v < a). omega (arith, here, prefix_le (λ u. length (A u)) v a g, fits.within v hv))
        (λ (g : a < v). omega (arith, here, prefix_le (λ u. length (A u)) a v g, fits.more a refl)))
        (cases_order v a)

    kept : (v i : ℕ) → v < n → i < length (L v) → get_or gone_on (6 * n + (offset A v + i)) 0 ≡ get_or (L v) i 0
    kept v i hv l =
        get_or-set_other put_in (13 * n + a) (6 * n + (offset A v + i)) (cell m n 13 a + 1) 0 (λ e. omega (arith, high))
        ∙ get_or-set_other m (6 * n + cell m n 13 a) (6 * n + (offset A v + i)) w 0 (λ e. elsewhere v i hv l (omega arith))
        ∙ f.wires v i hv l
      where
        high : offset A v + i < 2 * n
        high = omega (arith, fits.within v hv, prefix_le (λ u. length (A u)) v n hv, fits.few)

    at_operand : (v : ℕ) → v ≡ a → length (with_use L (Some a) w v) ≡ length (L v) + 1
    at_operand v e = longer v ∙ ap (λ t. length (L v) + cond t 1 0) (eq-eqb v a e)

    at_other : (v : ℕ) → (v ≡ a → ⊥) → length (with_use L (Some a) w v) ≡ length (L v)
    at_other v ne = longer v ∙ ap (λ t. length (L v) + cond t 1 0) (ne_eqb v a ne) ∙ omega arith

    -- the place that is written
    new : (v i : ℕ) → v ≡ a → i ≡ length (L v) → get_or gone_on (6 * n + (offset A v + i)) 0 ≡ get_or (with_use L (Some a) w v) i 0
    new v i e q =
        let place : 6 * n + (offset A v + i) ≡ 6 * n + cell m n 13 a = omega (arith, here, ap (offset A) e, ap (λ u. length (L u)) e) in
        ap (λ j. get_or gone_on j 0) place
        ∙ get_or-set_other put_in (13 * n + a) (6 * n + cell m n 13 a) (cell m n 13 a + 1) 0 (λ x. omega arith)
        ∙ get_or-set_same m (6 * n + cell m n 13 a) w 0 (omega (arith, room.rows))
        ∙ sym (ap (λ t. get_or (L v ++ cond t (w ∷ []) []) i 0) (eq-eqb v a e) ∙ get_or_push (L v) w 0 i (sym q))

    pub placed : Filled n gone_on A (with_use L (Some a) w)
    placed =
        record {
          next = λ v h. cell_here put_in n 13 a (cell m n 13 a + 1) room_in (omega arith) ha v
              ∙ ⊎_elim
              (λ (e : v ≡ a). ap (λ t. cond t (cell m n 13 a + 1) (cell put_in n 13 v)) (eq-eqb v a e) ∙ omega (arith, here, at_operand v e, ap (offset A) e, ap (λ u. length (L u)) e))
              (λ (ne : v ≡ a → ⊥). ap (λ t. cond t (cell m n 13 a + 1) (cell put_in n 13 v)) (ne_eqb v a ne) ∙ row_thirteen v ∙ f.next v h ∙ ap (λ k. offset A v + k) (sym (at_other v ne)))
              (cases_eq v a);
          wires = λ v i h l. ⊎_elim
              (λ (b : i < length (L v)). kept v i h b ∙ sym (get_or_append_left (L v) (one_use w a v) 0 i b))
              (λ (b : length (L v) ≤ i). ⊎_elim
              (λ (e : v ≡ a). new v i e (omega (arith, at_operand v e)))
              (λ (ne : v ≡ a → ⊥). absurd (omega (arith, at_other v ne)))
              (cases_eq v a))
              (cases_lt i (length (L v)));
        }

-- what a wire adds to the lists
module _ (c : List Making) (w : ℕ) (first second : Option ℕ) (p : Passed (at c w) first second) (n : ℕ) (long : length c ≡ n) (h : w < n) where
  few : offset (fed c) n ≤ 2 * n
  few = omega (arith, below_few c n (length c))

  -- the operand's own list would have room for one more
  one_used : (o : Option ℕ) (L : Family) → ((v : ℕ) → length (with_use L o w v) ≤ length (fed c v)) → (a : ℕ) → o ≡ Some a → length (L a) + 1 ≤ length (fed c a)
  one_used o L within a e =
      let used : length (with_use L o w a) ≡ length (L a) + 1 =
      ap (λ x. length (with_use L x w a)) e ∙ ap (λ t. length (L a ++ cond t (w ∷ []) [])) (eq-eqb a a refl) ∙ length-append (L a) (w ∷ []) in
      omega (arith, within a)

  shorter : (o : Option ℕ) (L : Family) → ((v : ℕ) → length (with_use L o w v) ≤ length (fed c v)) → (v : ℕ) → length (L v) ≤ length (fed c v)
  shorter o L within v = omega (arith, within v, length-append (L v) (maybe_use w o v))

  fits_by : (o : Option ℕ) (L : Family) → ((v : ℕ) → length (with_use L o w v) ≤ length (fed c v)) → FitsIn n (fed c) L o
  fits_by o L within = record { few = few; within = λ v l. shorter o L within v; more = one_used o L within }

  pub first_fits : FitsIn n (fed c) (fed_below c w) first
  first_fits = fits_by first (fed_below c w) (first_within c w first second p n long h)

  pub second_fits : FitsIn n (fed c) (with_use (fed_below c w) first w) second
  second_fits = fits_by second (with_use (fed_below c w) first w) (next_within c w first second p n long h)

  placeable : (m : List ℕ) (L : Family) (o : Option ℕ) → Filled n m (fed c) L → FitsIn n (fed c) L o → ((a : ℕ) → o ≡ Some a → a < n) → Placeable n m o
  placeable m L None f fits low = tt
  placeable m L (Some a) f fits low =
      let l = low a refl in
      (l, omega (arith, f.next a l, fits.more a refl, prefix_le (λ u. length (fed c u)) a n l, few))

  module _ (ordered : Ordered c) (m : List ℕ) where
    pub first_placeable : Filled n m (fed c) (fed_below c w) → Placeable n m first
    first_placeable f = placeable m (fed_below c w) first f first_fits (λ a e. omega (arith, operand_lower c ordered w a (p.takes a (inl e))))

    pub second_placeable : Filled n m (fed c) (with_use (fed_below c w) first w) → Placeable n m second
    second_placeable f = placeable m (with_use (fed_below c w) first w) second f second_fits (λ a e. omega (arith, operand_lower c ordered w a (p.takes a (inr e))))

pub filled_same : (n : ℕ) (m : List ℕ) (A L M : Family) → ((v : ℕ) → L v ≡ M v) → Filled n m A L → Filled n m A M
filled_same n m A L M e f =
    record {
      next = λ v h. f.next v h ∙ ap (λ xs. offset A v + length xs) (e v);
      wires = λ v i h l. f.wires v i h (subst (λ xs. i < length xs) (sym (e v)) l) ∙ ap (λ xs. get_or xs i 0) (e v);
    }
