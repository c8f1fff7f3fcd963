-- The numbers in front of a memory.
use Rattle.std.proofs.Common.{◌≡◌, ℕ, ◌+◌, ◌-◌, ◌*◌, ◌<◌, ◌≤◌, ◌↔◌, List, [], ◌∷◌, length, get_or, take, drop, sym, refl, ap, ◌∙◌, subst, ⊎_elim, add-one, arith, get_or-take, take-take, ext_get_or}
use Rattle.std.proofs.lemmas.List.FromFn.{get_or-map-range_with_len, length-map-range_with_len}
use Rattle.std.proofs.lemmas.List.{drop-take, get_or_past}
use Rattle.std.proofs.lemmas.Bool.{cases_lt}
use Rattle.circuits.specs.declared.making.Making.{Making}
use Rattle.routes.specs.Routes.{Ordered, Ends}
use Rattle.routes.proofs.Wires.{passes_in, lower}
use Rattle.rows.specs.Rows.{row_of, cell, Only}
use Rattle.rows.specs.Fed.{fed, begins, Loaded}
use Rattle.rows.proofs.Cells.{rows_apart}
use Rattle.rows.proofs.HeldCircuit.{circuit_same}
use Rattle.rows.proofs.Feeding.{In, fed_right, begins_few}
use Rattle.flows.proofs.Kept.{row_short}
use Rattle.graphs.specs.Fronts.{front_of, list_begin, list_end, lists_of, RowsInFront, ListsAreFed, LoadedByFront}

pub rows_in_front : RowsInFront
unfolding row_of
rows_in_front n m r h =
    let split : 13 * n ≡ r * n + (13 * n - r * n) = omega (arith, rows_apart n r 13 h) in
    ap (λ k. take n (drop (r * n) (take k m))) split
    ∙ ap (take n) (drop-take (r * n) (13 * n - r * n) m)
    ∙ take-take n (13 * n - r * n) (drop (r * n) m) (omega (arith, rows_apart n r 13 h))

pub cell_in_front : (n : ℕ) (m : List ℕ) (r w : ℕ) → r < 13 → cell (front_of n m) n r w ≡ cell m n r w
cell_in_front n m r w h = ap (λ xs. get_or xs w 0) (rows_in_front n m r h)

-- the memory differs from its front in no row of the front
unfoldable pub PastFront : ℕ → Type 0
PastFront r = 13 ≤ r

pub off_front : (r : ℕ) → r < 13 → PastFront r → ⊥
unfolding PastFront
off_front r h k = omega arith

pub only_past : (n : ℕ) (m : List ℕ) → Only PastFront n (front_of n m) m
unfolding PastFront
only_past n m r h = sym (rows_in_front n m r (⊎_elim (λ l. l) (λ l. absurd (h l)) (cases_lt r 13)))

pub cell_past : (m : List ℕ) (n r w : ℕ) → n ≤ w → cell m n r w ≡ 0
cell_past m n r w h = get_or_past (row_of m n r) w 0 (omega (arith, row_short m n r))

-- the lists that any numbers in front mean
pub list_long : (n : ℕ) (f : List ℕ) (v : ℕ) → length (lists_of n f v) ≡ list_end n f v - list_begin n f v
unfolding lists_of
list_long n f v = length-map-range_with_len (λ i. get_or f (6 * n + (list_begin n f v + i)) 0) 0 (list_end n f v - list_begin n f v)

pub list_at : (n : ℕ) (f : List ℕ) (v i : ℕ) → i < length (lists_of n f v) → get_or (lists_of n f v) i 0 ≡ get_or f (6 * n + (list_begin n f v + i)) 0
unfolding lists_of
list_at n f v i h =
    get_or-map-range_with_len (λ i. get_or f (6 * n + (list_begin n f v + i)) 0) 0 (list_end n f v - list_begin n f v) i i 0
    (omega (arith, h, length-map-range_with_len (λ i. get_or f (6 * n + (list_begin n f v + i)) 0) 0 (list_end n f v - list_begin n f v))) (omega arith)

-- in a loaded memory
none_in : (xs : List ℕ) → ((x : ℕ) → In x xs → ⊥) → xs ≡ []
none_in [] h = refl
none_in (x ∷ xs) h = absurd (h x (0, omega arith, refl))

module _ (c : List Making) (n : ℕ) (m : List ℕ) (ordered : Ordered c) (long : length c ≡ n) (loaded : Loaded c n m) (v : ℕ) where
  begin_is : v < n → list_begin n (front_of n m) v ≡ begins c v
  begin_is h = cell_in_front n m 5 v (omega arith) ∙ loaded.lists.starts v h

  end_is : v + 1 < n → list_end n (front_of n m) v ≡ begins c v + length (fed c v)
  end_is h =
      let next : cell (front_of n m) n 5 (v + 1) ≡ begins c (v + 1) = cell_in_front n m 5 (v + 1) (omega arith) ∙ loaded.lists.starts (v + 1) h in
      let sums : begins c (v + 1) ≡ length (fed c v) + begins c v = ap (begins c) (add-one v) in
      omega (arith, next, sums, begins_few c v (omega arith))

  last_has_none : n ≤ v + 1 → fed c v ≡ []
  last_has_none h =
      none_in (fed c v) (λ x i. let p = fed_right c v x i in omega (arith, lower c ordered v x p, passes_in c x v p))

  list_is : lists_of n (front_of n m) v ≡ fed c v
  list_is =
      ⊎_elim
      (λ (h : v + 1 < n). let same : length (lists_of n (front_of n m) v) ≡ length (fed c v) = omega (arith, list_long n (front_of n m) v, begin_is (omega arith), end_is h) in
      ext_get_or 0 (lists_of n (front_of n m) v) (fed c v) same
      (λ i l. list_at n (front_of n m) v i l
      ∙ ap (λ b. get_or (front_of n m) (6 * n + (b + i)) 0) (begin_is (omega arith))
      ∙ get_or-take (13 * n) m (6 * n + (begins c v + i)) 0 (omega (arith, l, same, begins_few c v (omega arith)))
      ∙ loaded.lists.wires v i (omega arith) (omega arith)))
      (λ (h : n ≤ v + 1). none_in (lists_of n (front_of n m) v)
      (λ x i. omega (arith, i.1, list_long n (front_of n m) v, cell_past (front_of n m) n 5 (v + 1) h))
      ∙ sym (last_has_none h))
      (cases_lt (v + 1) n)

pub lists_are_fed : ListsAreFed
lists_are_fed c n m ordered long loaded v = list_is c n m ordered long loaded v

-- where the front stays, so does what it holds
pub only_search : (n : ℕ) (m m' : List ℕ) → front_of n m' ≡ front_of n m → Only PastFront n m m'
only_search n m m' e r h =
    only_past n m' r h ∙ ap (λ f. row_of f n r) e ∙ sym (only_past n m r h)

pub loaded_by_front : LoadedByFront
loaded_by_front c n m m' long e loaded =
    let o = only_search n m m' e in
    record {
      circuit = circuit_same PastFront n m m' (λ r l. off_front r (omega arith)) o ∙ loaded.circuit;
      goals = λ v. subst (λ k. (0 < k) ↔ Ends c v) (sym (same 4 v (omega arith))) (loaded.goals v);
      lists = record {
        starts = λ v h. same 5 v (omega arith) ∙ loaded.lists.starts v h;
        wires = λ v i h l. number (6 * n + (begins c v + i)) (omega (arith, begins_few c v (omega arith))) ∙ loaded.lists.wires v i h l;
      };
    }
  where
    same : (r w : ℕ) → r < 13 → cell m' n r w ≡ cell m n r w
    same r w h = sym (cell_in_front n m' r w h) ∙ ap (λ f. cell f n r w) e ∙ cell_in_front n m r w h

    number : (k : ℕ) → k < 13 * n → get_or m' k 0 ≡ get_or m k 0
    number k h = sym (get_or-take (13 * n) m' k 0 h) ∙ ap (λ f. get_or f k 0) e ∙ get_or-take (13 * n) m k 0 h
