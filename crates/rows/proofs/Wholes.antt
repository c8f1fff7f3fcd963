-- The whole of a loading.
use Rattle.std.proofs.Common.{◌≡◌, ℕ, ◌+◌, ◌-◌, ◌*◌, ◌<◌, ◌≤◌, min, ◌⊎◌, ◌↔◌, List, length, get_or, sym, refl, ap, ◌∙◌, subst, ap₂, inl, inr, ⊎_elim, mul-le-mul_right, arith, length-drop, length-take, ext_get_or}
use Rattle.std.proofs.lemmas.List.{get_or_past}
use Rattle.std.proofs.lemmas.Bool.{cases_lt}
use Rattle.circuits.specs.declared.making.Making.{Making}
use Rattle.routes.specs.Routes.{Ordered, Ends}
use Rattle.routes.proofs.Wires.{product_in, operand_lower}
use Rattle.rows.specs.declared.rows.Rows.{Rows}
use Rattle.rows.specs.Rows.{Room, row_of, cell, Between, Only, Wiped, SameRows}
use Rattle.rows.specs.Held.{circuit_of, circuit_in}
use Rattle.rows.specs.Fed.{fed_below, fed, Lists, Flagged, Loaded, FreshLoad}
use Rattle.rows.specs.Loading.{offset, Counted, Spaced, Filled, ListRow, PlacedRow}
use Rattle.rows.proofs.Cells.{rows_apart, row_length, cell_at, room_same}
use Rattle.rows.proofs.HeldCircuit.{circuit_length}
use Rattle.rows.proofs.Placing.{filled_none}
use Rattle.rows.proofs.Rooms.{room_of, row_kept, circuit_kept}

-- a range of rows that is wiped
module _ (n : ℕ) (m m' : List ℕ) (a b : ℕ) (same : length m' ≡ length m) (room : Room n m) (h : Wiped m m' (a * n) (b * n)) where
  row_short : (m : List ℕ) (r : ℕ) → length (row_of m n r) ≡ min n (length m - r * n)
  unfolding row_of
  row_short m r = simp (length-take, length-drop) refl

  pub wiped_only : Only (λ r. (a ≤ r) × (r < b)) n m m'
  wiped_only r ne =
      ext_get_or 0 (row_of m' n r) (row_of m n r) (row_short m' r ∙ ap (λ k. min n (k - r * n)) same ∙ sym (row_short m r))
      (λ i l. let low : i < n = omega (arith, row_short m' r) in
      cell_at m' n r i low ∙ h.outside (r * n + i) (off i low) ∙ sym (cell_at m n r i low))
    where
      off : (i : ℕ) → i < n → (r * n + i < a * n) ⊎ (b * n ≤ r * n + i)
      off i low =
          ⊎_elim (λ (l : r < a). inl (omega (arith, rows_apart n r a l)))
          (λ (l : a ≤ r). ⊎_elim (λ (k : r < b). absurd (ne (l, k))) (λ (k : b ≤ r). inr (omega (arith, mul-le-mul_right {m = b} {n = r} n k))) (cases_lt r b)) (cases_lt r a)

  pub wiped_cell : (r : ℕ) → a ≤ r → r < b → b ≤ 24 → (w : ℕ) → cell m' n r w ≡ 0
  wiped_cell r lo hi top w =
      ⊎_elim
      (λ (l : w < n). cell_at m' n r w l ∙ h.inside (r * n + w) (omega (arith, mul-le-mul_right {m = a} {n = r} n lo)) (omega (arith, rows_apart n r b hi)))
      (λ (l : n ≤ w). get_or_past (row_of m' n r) w 0 (omega (arith, row_length n m' (room_same n m m' same room) r (omega arith))))
      (cases_lt w n)

-- nothing is flagged, and nothing counted
pub flagged_start : (c : List Making) (n : ℕ) (m : List ℕ) → ((w : ℕ) → cell m n 4 w ≡ 0) → Flagged c n m 0
flagged_start c n m z v h = (λ l. absurd (omega (arith, z v)), λ e. absurd (omega (arith, e.1)))

pub counted_start : (c : List Making) (n : ℕ) (m : List ℕ) → ((w : ℕ) → cell m n 5 w ≡ 0) → Counted n m (fed_below c 0)
counted_start c n m z v h = z v

-- the parts together
module _ (c : List Making) (n : ℕ) (long : length c ≡ n) (m : List ℕ) (room : Room n m) (ordered : Ordered c) where
  goals_from : Flagged c n m n → (v : ℕ) → (0 < cell m n 4 v) ↔ Ends c v
  goals_from f v = (
    λ l. let low = inside l in let e = (f v low).0 l in (e.0, e.2, e.3),
    λ e. let u = product_in c e.0 e.1 in (f v (omega (arith, operand_lower c ordered e.0 v e.2))).1 (e.0, omega (arith, u), e.1, e.2),
  )
    where
      inside : 0 < cell m n 4 v → v < n
      inside l = ⊎_elim (λ (b : v < n). b) (λ (b : n ≤ v). absurd (omega (arith, get_or_past (row_of m n 4) v 0 (omega (arith, row_length n m room 4 (omega arith)))))) (cases_lt v n)

  lists_from : ((v : ℕ) → v < n → cell m n 5 v ≡ offset (fed_below c n) v) → Filled n m (fed c) (fed_below c n) → Lists c n m
  lists_from starts f =
      record {
        starts = λ v h. starts v h ∙ ap (λ k. offset (fed_below c k) v) (sym long);
        wires = λ v i h l. f.wires v i h (subst (λ k. i < length (fed_below c k v)) long l) ∙ ap (λ k. get_or (fed_below c k v) i 0) (sym long);
      }

  pub loaded_from : circuit_of m n ≡ c → Flagged c n m n → ((v : ℕ) → v < n → cell m n 5 v ≡ offset (fed_below c n) v) → Filled n m (fed c) (fed_below c n) → Loaded c n m
  loaded_from e flags starts f = record { circuit = e; goals = goals_from flags; lists = lists_from starts f }

abbrev pub WipedRows : ℕ → Type 0
WipedRows r = (3 ≤ r) × (r < 13)

flagged_same : (c : List Making) (n : ℕ) (m m' : List ℕ) (k : ℕ) → row_of m' n 4 ≡ row_of m n 4 → Flagged c n m k → Flagged c n m' k
flagged_same c n m m' k e f v h =
    let same : cell m' n 4 v ≡ cell m n 4 v = ap (λ xs. get_or xs v 0) e in
    ((λ l. (f v h).0 (omega (arith, same))), (λ x. omega (arith, same, (f v h).1 x)))

-- the rows with the makings in them, and after each later part of a loading
module _ (c : List Making) (ordered : Ordered c) (s₁ s₂ : Rows) (e₁ : circuit_in s₁ ≡ c)
    (same₂ : SameRows s₁ s₂) (wiped : Wiped s₁.memory.now s₂.memory.now (3 * s₁.wires) (13 * s₁.wires)) where
  zero_cell : (r : ℕ) → 3 ≤ r → r < 13 → (w : ℕ) → cell s₂.memory.now s₂.wires r w ≡ 0
  zero_cell r lo hi w = ap (λ n. cell s₂.memory.now n r w) same₂.wires ∙ wiped_cell s₁.wires s₁.memory.now s₂.memory.now 3 13 same₂.long (room_of s₁) wiped r lo hi (omega arith) w

  e₂ : circuit_in s₂ ≡ c
  e₂ = circuit_kept WipedRows s₁ s₂ same₂ (wiped_only s₁.wires s₁.memory.now s₂.memory.now 3 13 same₂.long (room_of s₁) wiped) (λ r h f. omega (arith, f.0)) ∙ e₁

  pub ordered₂ : Ordered (circuit_in s₂)
  ordered₂ = subst Ordered (sym e₂) ordered

  pub flagged₂ : Flagged (circuit_in s₂) s₂.wires s₂.memory.now 0
  flagged₂ = flagged_start (circuit_in s₂) s₂.wires s₂.memory.now (zero_cell 4 (omega arith) (omega arith))

  module _ (s₃ : Rows) (same₃ : SameRows s₂ s₃) (o₃ : Only (Between 4 4) s₂.wires s₂.memory.now s₃.memory.now) where
    e₃ : circuit_in s₃ ≡ c
    e₃ = circuit_kept (Between 4 4) s₂ s₃ same₃ o₃ (λ r h f. omega (arith, f.0)) ∙ e₂

    pub ordered₃ : Ordered (circuit_in s₃)
    ordered₃ = subst Ordered (sym e₃) ordered

    still_zero : (r : ℕ) → 3 ≤ r → r < 13 → (r ≡ 4 → ⊥) → (w : ℕ) → cell s₃.memory.now s₃.wires r w ≡ 0
    still_zero r lo hi ne w = ap (λ xs. get_or xs w 0) (row_kept (Between 4 4) s₂ s₃ same₃ o₃ r (λ f. ne (omega (arith, f.0, f.1)))) ∙ zero_cell r lo hi w

    pub counted₃ : Counted s₃.wires s₃.memory.now (fed_below (circuit_in s₃) 0)
    counted₃ = counted_start (circuit_in s₃) s₃.wires s₃.memory.now (still_zero 5 (omega arith) (omega arith) (λ e. omega arith))

    module _ (s₄ : Rows) (same₄ : SameRows s₃ s₄) (o₄ : Only (Between 5 5) s₃.wires s₃.memory.now s₄.memory.now) where
      e₄ : circuit_in s₄ ≡ c
      e₄ = circuit_kept (Between 5 5) s₃ s₄ same₄ o₄ (λ r h f. omega (arith, f.0)) ∙ e₃

      module _ (s₅ : Rows) (same₅ : SameRows s₄ s₅) (o₅ : Only ListRow s₄.wires s₄.memory.now s₅.memory.now) (spaced : Spaced s₄.wires s₅.memory.now (fed_below (circuit_in s₄) s₄.wires) s₄.wires) where
        e₅ : circuit_in s₅ ≡ c
        e₅ = circuit_kept ListRow s₄ s₅ same₅ o₅ (λ r h f. ⊎_elim (λ b. omega (arith, b.0)) (λ b. omega arith) f) ∙ e₄

        pub ordered₅ : Ordered (circuit_in s₅)
        ordered₅ = subst Ordered (sym e₅) ordered

        -- the lists that room was made for are those of the circuit
        lists_are : fed_below (circuit_in s₄) s₄.wires ≡ fed (circuit_in s₅)
        lists_are = ap₂ fed_below (e₄ ∙ sym e₅) (sym same₅.wires ∙ sym (circuit_length s₅.memory.now s₅.wires (room_of s₅)))

        spaced₅ : Spaced s₅.wires s₅.memory.now (fed (circuit_in s₅)) s₅.wires
        spaced₅ = subst (λ A. Spaced s₅.wires s₅.memory.now A s₅.wires) lists_are
            (subst (λ n. Spaced n s₅.memory.now (fed_below (circuit_in s₄) s₄.wires) n) (sym same₅.wires) spaced)

        pub filled₅ : Filled s₅.wires s₅.memory.now (fed (circuit_in s₅)) (fed_below (circuit_in s₅) 0)
        filled₅ = filled_none s₅.wires s₅.memory.now (fed (circuit_in s₅)) spaced₅

        module _ (s₆ : Rows) (same₆ : SameRows s₅ s₆) (o₆ : Only PlacedRow s₅.wires s₅.memory.now s₆.memory.now) (flags : Flagged (circuit_in s₂) s₂.wires s₃.memory.now s₂.wires) (filled : Filled s₅.wires s₆.memory.now (fed (circuit_in s₅)) (fed_below (circuit_in s₅) s₅.wires)) where
          e₆ : circuit_in s₆ ≡ c
          e₆ = circuit_kept PlacedRow s₅ s₆ same₆ o₆ (λ r h f. ⊎_elim (λ b. omega (arith, b.0)) (λ b. omega arith) f) ∙ e₅

          long : length c ≡ s₆.wires
          long = sym (ap length e₆) ∙ circuit_length s₆.memory.now s₆.wires (room_of s₆)

          -- a row that the last three parts leave alone
          later : (r : ℕ) → (ListRow r → ⊥) → row_of s₆.memory.now s₆.wires r ≡ row_of s₃.memory.now s₃.wires r
          later r off =
              row_kept PlacedRow s₅ s₆ same₆ o₆ r (λ f. off (⊎_elim (λ b. inl (omega (arith, b.0), b.1)) inr f))
              ∙ row_kept ListRow s₄ s₅ same₅ o₅ r off
              ∙ row_kept (Between 5 5) s₃ s₄ same₄ o₄ r (λ f. off (inl (f.0, omega (arith, f.1))))

          not_list : (r : ℕ) → (r < 5) ⊎ (Between 8 12 r) → ListRow r → ⊥
          not_list r h f = ⊎_elim (λ a. ⊎_elim (λ b. omega (arith, b.0)) (λ b. omega arith) f) (λ a. ⊎_elim (λ b. omega (arith, a.0, b.1)) (λ b. omega (arith, a.1)) f) h

          zero_at_end : (r : ℕ) → 3 ≤ r → r < 13 → (r ≡ 4 → ⊥) → (r < 5) ⊎ (Between 8 12 r) → (w : ℕ) → cell s₆.memory.now s₆.wires r w ≡ 0
          zero_at_end r lo hi ne off w = ap (λ xs. get_or xs w 0) (later r (not_list r off)) ∙ still_zero r lo hi ne w

          flags₆ : Flagged c s₆.wires s₆.memory.now s₆.wires
          flags₆ =
              let wires : s₂.wires ≡ s₆.wires = sym (same₆.wires ∙ same₅.wires ∙ same₄.wires ∙ same₃.wires) in
              let row : row_of s₆.memory.now s₆.wires 4 ≡ row_of s₃.memory.now s₆.wires 4 =
              later 4 (not_list 4 (inl (omega arith))) ∙ ap (λ n. row_of s₃.memory.now n 4) (sym (same₆.wires ∙ same₅.wires ∙ same₄.wires)) in
              flagged_same c s₆.wires s₃.memory.now s₆.memory.now s₆.wires row (subst (λ x. Flagged x s₆.wires s₃.memory.now s₆.wires) e₂ (subst (λ n. Flagged (circuit_in s₂) n s₃.memory.now n) wires flags))

          starts₆ : (v : ℕ) → v < s₆.wires → cell s₆.memory.now s₆.wires 5 v ≡ offset (fed_below c s₆.wires) v
          starts₆ v h =
              ap (λ xs. get_or xs v 0) (row_kept PlacedRow s₅ s₆ same₆ o₆ 5 (λ f. ⊎_elim (λ b. omega (arith, b.0)) (λ b. omega arith) f))
              ∙ spaced₅.begun v (omega (arith, h, same₆.wires))
              ∙ ap (λ x. offset (fed x) v) e₅
              ∙ ap (λ k. offset (fed_below c k) v) long

          filled₆ : Filled s₆.wires s₆.memory.now (fed c) (fed_below c s₆.wires)
          filled₆ = subst (λ x. Filled s₆.wires s₆.memory.now (fed x) (fed_below x s₆.wires)) e₅
              (subst (λ n. Filled n s₆.memory.now (fed (circuit_in s₅)) (fed_below (circuit_in s₅) n)) (sym same₆.wires) filled)

          pub fresh : FreshLoad c s₆.wires s₆.memory.now
          fresh =
              record {
                loaded = loaded_from c s₆.wires long s₆.memory.now (room_of s₆) ordered e₆ flags₆ starts₆ filled₆;
                no_bars = zero_at_end 3 (omega arith) (omega arith) (λ e. omega arith) (inl (omega arith));
                no_units = λ r w h. zero_at_end r (omega (arith, h.0)) (omega (arith, h.1)) (λ e. omega (arith, h.0)) (inr h) w;
              }
