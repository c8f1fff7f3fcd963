-- What stays where its rows do.
use Rattle.std.proofs.Common.{◌≡◌, ℕ, ◌+◌, ◌-◌, ◌*◌, ◌<◌, ◌≤◌, false, ltb, ◌↔◌, List, length, get_or, sym, refl, ap, ◌∙◌, subst, subst₂, ⊎_elim, add-mul, arith}
use Rattle.std.proofs.lemmas.List.{get_or_past}
use Rattle.std.proofs.lemmas.Bool.{cases_lt}
use Rattle.circuits.specs.Levels.{produced, produced_at}
use Rattle.circuits.specs.declared.making.Making.{Making}
use Rattle.circuits.specs.declared.making.Making.TheVariants.{Input}
use Rattle.routes.specs.Routes.{Ends}
use Rattle.routes.proofs.Wires.{produced_is}
use Rattle.rows.specs.Rows.{Room, row_of, cell, Only}
use Rattle.rows.specs.Held.{circuit_of, bars_of}
use Rattle.rows.specs.Fed.{begins, Lists, Loaded}
use Rattle.rows.proofs.Cells.{cell_at, row_length}
use Rattle.rows.proofs.HeldCircuit.{circuit_same, circuit_length}
use Rattle.rows.proofs.Feeding.{begins_few}

-- past the last wire nothing is produced, and nothing barred
pub produced_past : (n : ℕ) (m : List ℕ) → Room n m → (w : ℕ) → n ≤ w → produced_at (circuit_of m n) w ≡ false
produced_past n m room w h =
    produced_is (circuit_of m n) w ∙ ap produced (get_or_past (circuit_of m n) w Input (omega (arith, circuit_length m n room)))

pub barred_past : (n : ℕ) (m : List ℕ) → Room n m → (w : ℕ) → n ≤ w → bars_of m n w ≡ false
barred_past n m room w h = ap (ltb 0) (get_or_past (row_of m n 3) w 0 (omega (arith, row_length n m room 3 (omega arith))))

-- two rows one after another stay
module _ (R : ℕ → Type 0) (n : ℕ) (m m' : List ℕ) (o : Only R n m m') (r : ℕ) (off : R r → ⊥) (next : R (r + 1) → ⊥) where
  pub pair_stays : (j : ℕ) → j < 2 * n → get_or m' (r * n + j) 0 ≡ get_or m (r * n + j) 0
  pair_stays j l =
      ⊎_elim
      (λ (k : j < n). sym (cell_at m' n r j k) ∙ ap (λ xs. get_or xs j 0) (o r off) ∙ cell_at m n r j k)
      (λ (k : n ≤ j).
      let e : r * n + j ≡ (r + 1) * n + (j - n) = omega (arith, add-mul r 1 n) in
      let low : j - n < n = omega arith in
      ap (λ i. get_or m' i 0) e ∙ sym (cell_at m' n (r + 1) (j - n) low) ∙ ap (λ xs. get_or xs (j - n) 0) (o (r + 1) next) ∙ cell_at m n (r + 1) (j - n) low
      ∙ sym (ap (λ i. get_or m i 0) e))
      (cases_lt j n)

-- the circuit with its flags and lists stays where rows 0 to 2 and 4 to 7 do
module _ (R : ℕ → Type 0) (n : ℕ) (m m' : List ℕ) (off : (r : ℕ) → r < 8 → (r ≡ 3 → ⊥) → R r → ⊥) (o : Only R n m m') where
  pub circuit_stays : circuit_of m' n ≡ circuit_of m n
  circuit_stays = circuit_same R n m m' (λ r l. off r (omega arith) (λ e. omega arith)) o

  cell_stays : (r : ℕ) → r < 8 → (r ≡ 3 → ⊥) → (v : ℕ) → cell m' n r v ≡ cell m n r v
  cell_stays r l ne v = ap (λ xs. get_or xs v 0) (o r (off r l ne))

  lists_stay : (c : List Making) → length c ≡ n → Lists c n m → Lists c n m'
  lists_stay c long h =
      record {
        starts = λ v l. cell_stays 5 (omega arith) (λ e. omega arith) v ∙ h.starts v l;
        wires = λ v i l k. pair_stays R n m m' o 6 (off 6 (omega arith) (λ e. omega arith)) (off 7 (omega arith) (λ e. omega arith)) (begins c v + i) (omega (arith, begins_few c v (omega arith))) ∙ h.wires v i l k;
      }

  pub loaded_stays : Room n m → Loaded (circuit_of m n) n m → Loaded (circuit_of m' n) n m'
  loaded_stays room h =
      record {
        circuit = refl;
        goals = λ v. subst₂ (λ c k. (0 < k) ↔ Ends c v) (sym circuit_stays) (sym (cell_stays 4 (omega arith) (λ e. omega arith) v)) (h.goals v);
        lists = subst (λ c. Lists c n m') (sym circuit_stays) (lists_stay (circuit_of m n) (circuit_length m n room) h.lists);
      }
