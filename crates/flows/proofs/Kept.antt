-- The circuit and the flow stay where their rows do.
use Rattle.std.proofs.Common.{◌≡◌, ℕ, ◌-◌, ◌*◌, ◌<◌, ◌≤◌, min, ltb, ◌⊎◌, ◌+◌, List, length, get_or, ext_get_or, sym, refl, ap, ◌∙◌, subst, ap₂, subst₂, arith, length-drop, length-take}
use Rattle.routes.specs.Plans.{ones}
use Rattle.routes.specs.Flows.{IsFlow, value}
use Rattle.routes.specs.Stored.{flow_of, slots}
use Rattle.routes.specs.Routes.{at}
use Rattle.rows.specs.declared.rows.Rows.{Rows}
use Rattle.rows.specs.Rows.{row_of, cell, Only, SameRows}
use Rattle.rows.specs.Held.{circuit_of, bars_of}
use Rattle.flows.specs.Kept.{flow_in, Flows, routes_in}
use Rattle.rows.proofs.Cells.{cell_at}
use Rattle.rows.proofs.HeldCircuit.{makings_length, circuit_same}

pub along_is : (m : List ℕ) (n v w : ℕ) → (flow_in m n).along v w ≡ slots (at (circuit_of m n) w) (cell m n 9 w) (cell m n 10 w) v
unfolding flow_in
along_is m n v w = refl

pub row_short : (m : List ℕ) (n r : ℕ) → length (row_of m n r) ≡ min n (length m - r * n)
unfolding row_of
row_short m n r = simp (length-take, length-drop) refl

-- whatever the memory holds, there are no more wires than a row has room for
pub wires_at_most : (m : List ℕ) (n : ℕ) → length (circuit_of m n) ≤ n
wires_at_most m n = omega (arith, makings_length (row_of m n 0) (row_of m n 1) (row_of m n 2), row_short m n 0)

pub bars_same : (R : ℕ → Type 0) (n : ℕ) (m m' : List ℕ) → (R 3 → ⊥) → Only R n m m' → bars_of m' n ≡ bars_of m n
bars_same R n m m' off o = λ i w. ltb 0 (get_or (o 3 off i) w 0)

module _ (R : ℕ → Type 0) (n : ℕ) (m m' : List ℕ) (off : (r : ℕ) → r < 13 → R r → ⊥) (o : Only R n m m') where
  pub circuit_kept : circuit_of m' n ≡ circuit_of m n
  circuit_kept = circuit_same R n m m' (λ r l. off r (omega arith)) o

  pub flow_kept : flow_in m' n ≡ flow_in m n
  unfolding flow_in
  flow_kept =
      λ i. flow_of (circuit_kept i)
      (record {
        starts = o 8 (off 8 (omega arith)) i;
        firsts = o 9 (off 9 (omega arith)) i;
        seconds = o 10 (off 10 (omega arith)) i;
        finishes = o 11 (off 11 (omega arith)) i;
        throughs = o 12 (off 12 (omega arith)) i;
      })

  pub flows_kept : Flows n m → Flows n m'
  flows_kept h =
      subst₂ (λ c x. IsFlow c (bars_of m' n) ones x) (sym circuit_kept) (sym flow_kept)
      (subst (λ b. IsFlow (circuit_of m n) b ones (flow_in m n)) (sym (bars_same R n m m' (off 3 (omega arith)) o)) h)

  pub routes_kept : routes_in m' n ≡ routes_in m n
  routes_kept = ap₂ value circuit_kept flow_kept

-- of rows after a call that leaves the rows below 13
module _ (R : ℕ → Type 0) (s t : Rows) (same : SameRows s t) (off : (r : ℕ) → r < 13 → R r → ⊥) (o : Only R s.wires s.memory.now t.memory.now) where
  pub flows_after : Flows s.wires s.memory.now → Flows t.wires t.memory.now
  flows_after h = subst (λ n. Flows n t.memory.now) (sym same.wires) (flows_kept R s.wires s.memory.now t.memory.now off o h)

  pub flow_after : flow_in t.memory.now t.wires ≡ flow_in s.memory.now s.wires
  flow_after = ap (flow_in t.memory.now) same.wires ∙ flow_kept R s.wires s.memory.now t.memory.now off o

  pub routes_after : routes_in t.memory.now t.wires ≡ routes_in s.memory.now s.wires
  routes_after = ap (routes_in t.memory.now) same.wires ∙ routes_kept R s.wires s.memory.now t.memory.now off o

-- a stretch of the memory that changes lies in these rows
pub only_outside : (R : ℕ → Type 0) (n : ℕ) (m m' : List ℕ) (a b : ℕ) → length m' ≡ length m → ((k : ℕ) → (k < a) ⊎ (b ≤ k) → get_or m' k 0 ≡ get_or m k 0)
    → ((r i : ℕ) → i < n → (R r → ⊥) → (r * n + i < a) ⊎ (b ≤ r * n + i)) → Only R n m m'
only_outside R n m m' a b same out off r ne =
    ext_get_or 0 (row_of m' n r) (row_of m n r) (row_short m' n r ∙ ap (λ k. min n (k - r * n)) same ∙ sym (row_short m n r))
    (λ i l. let low : i < n = omega (arith, row_short m' n r) in cell_at m' n r i low ∙ out (r * n + i) (off r i low ne) ∙ sym (cell_at m n r i low))
