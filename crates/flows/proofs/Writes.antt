-- One write to the memory is one change of the flow.
use Rattle.std.proofs.Common.{◌≡◌, ℕ, zero, suc, ◌+◌, ◌-◌, ◌<◌, ◌≤◌, cond, eqb, ◌⊎◌, List, length, set, sym, refl, ap, ◌∙◌, subst, subst₂, inl, inr, ⊎_elim, arith}
use Rattle.std.proofs.lemmas.Bool.{cases_Bool, cases_lt, eqb-true, eq-eqb}
use Rattle.circuits.specs.declared.making.Making.{Making}
use Rattle.circuits.specs.declared.making.Making.TheVariants.{Input, Constant, Copy, Inversion, Sum, Product}
use Rattle.routes.specs.Routes.{at, PassesOn, Passes}
use Rattle.routes.specs.Flows.{Flow}
use Rattle.routes.specs.Paths.{more_at, less_at, more_along, less_along, ended_at}
use Rattle.routes.specs.Stored.{slots, Store, flow_of, First, Second, with_starts, with_firsts, with_seconds, with_finishes, with_throughs, with_along, with_through}
use Rattle.routes.proofs.Stored.{writes_are_changes}
use Rattle.rows.specs.Rows.{Room, row_of, cell, written, Between}
use Rattle.rows.proofs.Cells.{row_here, row_else, row_length, only_written}
use Rattle.rows.specs.Held.{making, circuit_of}
use Rattle.flows.specs.Kept.{store_of, flow_in, Changed}
use Rattle.flows.specs.Stacks.{begun_at}
use Rattle.rows.proofs.HeldCircuit.{circuit_at, circuit_same}
use Rattle.flows.proofs.Kept.{along_is}

-- which operand a unit comes from
pub passes_first : (k a b v : ℕ) → PassesOn (making k a b) v → v ≡ a → First (making k a b) v
passes_first zero a b v f e = f
passes_first (suc zero) a b v f e = e
passes_first (suc (suc zero)) a b v f e = e
passes_first (suc (suc (suc zero))) a b v f e = e
passes_first (suc (suc (suc (suc zero)))) a b v f e = f
passes_first (suc (suc (suc (suc (suc k))))) a b v f e = f

pub passes_second : (k a b v : ℕ) → PassesOn (making k a b) v → (v ≡ a → ⊥) → Second (making k a b) v
passes_second zero a b v f n = f
passes_second (suc zero) a b v f n = n f
passes_second (suc (suc zero)) a b v f n = n f
passes_second (suc (suc (suc zero))) a b v f n = ⊎_elim (λ e. absurd (n e)) (λ e. e) f
passes_second (suc (suc (suc (suc zero)))) a b v f n = f
passes_second (suc (suc (suc (suc (suc k))))) a b v f n = f

first_cond : (v a x : ℕ) → v ≡ a → cond (eqb v a) x 0 ≡ x
first_cond v a x e = ap (λ t. cond t x 0) (eq-eqb v a e)

pub first_within : (m : Making) (x y v : ℕ) → First m v → x ≤ slots m x y v
first_within Input x y v f = absurd f
first_within (Constant k) x y v f = absurd f
first_within (Copy a) x y v f = omega (arith, first_cond v a x f)
first_within (Inversion a) x y v f = omega (arith, first_cond v a x f)
first_within (Sum a b) x y v f = omega (arith, first_cond v a x f)
first_within (Product a b) x y v f = absurd f

pub second_within : (m : Making) (x y v : ℕ) → Second m v → y ≤ slots m x y v
second_within Input x y v f = absurd f
second_within (Constant k) x y v f = absurd f
second_within (Copy a) x y v f = absurd f
second_within (Inversion a) x y v f = absurd f
second_within (Sum a b) x y v f = omega (arith, first_cond v b y f)
second_within (Product a b) x y v f = absurd f

-- units of a slot come from its operand
slot_from : (v a x : ℕ) → 0 < cond (eqb v a) x 0 → (v ≡ a) × (0 < x)
slot_from v a x h =
    ⊎_elim (λ e. (eqb-true v a e, omega (arith, ap (λ t. cond t x 0) e))) (λ e. absurd (omega (arith, ap (λ t. cond t x 0) e))) (cases_Bool (eqb v a))

pub slots_passes : (m : Making) (x y v : ℕ) → 0 < slots m x y v → PassesOn m v
slots_passes Input x y v h = absurd (omega arith)
slots_passes (Constant k) x y v h = absurd (omega arith)
slots_passes (Copy a) x y v h = (slot_from v a x h).0
slots_passes (Inversion a) x y v h = (slot_from v a x h).0
slots_passes (Sum a b) x y v h =
    ⊎_elim (λ l. inl (slot_from v a x l).0) (λ l. inr (slot_from v b y (omega arith)).0) (cases_lt 0 (cond (eqb v a) x 0))
slots_passes (Product a b) x y v h = absurd (omega arith)

-- a unit comes from the first operand, by a kind that passes it on, or from the second of a sum
slots_from : (k a b x y v : ℕ) → 0 < slots (making k a b) x y v → ((v ≡ a) × (0 < k) × (k < 4) × (0 < x)) ⊎ ((v ≡ b) × (k ≡ 3) × (0 < y))
slots_from zero a b x y v h = absurd (omega arith)
slots_from (suc zero) a b x y v h = inl ((slot_from v a x h).0, omega arith, omega arith, (slot_from v a x h).1)
slots_from (suc (suc zero)) a b x y v h = inl ((slot_from v a x h).0, omega arith, omega arith, (slot_from v a x h).1)
slots_from (suc (suc (suc zero))) a b x y v h =
    ⊎_elim (λ l. inl ((slot_from v a x l).0, omega arith, omega arith, (slot_from v a x l).1))
    (λ l. let t : (v ≡ b) × (0 < y) = slot_from v b y (omega arith) in inr (t.0, refl, t.1)) (cases_lt 0 (cond (eqb v a) x 0))
slots_from (suc (suc (suc (suc zero)))) a b x y v h = absurd (omega arith)
slots_from (suc (suc (suc (suc (suc k))))) a b x y v h = absurd (omega arith)

-- such a kind has a first operand
pub kind_first : (k a b : ℕ) → 0 < k → k < 4 → First (making k a b) a
kind_first zero a b lo hi = absurd (omega arith)
kind_first (suc zero) a b lo hi = refl
kind_first (suc (suc zero)) a b lo hi = refl
kind_first (suc (suc (suc zero))) a b lo hi = refl
kind_first (suc (suc (suc (suc k)))) a b lo hi = absurd (omega arith)

kind_second : (k a b : ℕ) → k ≡ 3 → Second (making k a b) b
kind_second k a b e = subst (λ k. Second (making k a b) b) (sym e) refl

-- one write, as a change of the flow
module _ (m : List ℕ) (n w k : ℕ) (room : Room n m) (h : w < n) where
  abbrev after : ℕ → List ℕ
  after r = written m n r w k

  -- a write to a row of the flow leaves the circuit
  flow_after : (r : ℕ) → Between 8 12 r → flow_in (after r) n ≡ flow_of (circuit_of m n) (store_of (after r) n)
  unfolding flow_in
  flow_after r f = ap (λ c. flow_of c (store_of (after r) n)) (circuit_same (Between 8 12) n m (after r) (λ q l g. omega arith) (only_written (Between 8 12) n m r w k h f))

  other : (r q : ℕ) → (q ≡ r → ⊥) → row_of (after r) n q ≡ row_of m n q
  other r q ne = row_else m n r w k q h ne

  starts_after : store_of (after 8) n ≡ with_starts (set (row_of m n 8) w k) (store_of m n)
  starts_after = λ i. record { starts = row_here m n 8 w k h i; firsts = other 8 9 (λ e. omega arith) i; seconds = other 8 10 (λ e. omega arith) i; finishes = other 8 11 (λ e. omega arith) i; throughs = other 8 12 (λ e. omega arith) i }

  firsts_after : store_of (after 9) n ≡ with_firsts (set (row_of m n 9) w k) (store_of m n)
  firsts_after = λ i. record { starts = other 9 8 (λ e. omega arith) i; firsts = row_here m n 9 w k h i; seconds = other 9 10 (λ e. omega arith) i; finishes = other 9 11 (λ e. omega arith) i; throughs = other 9 12 (λ e. omega arith) i }

  seconds_after : store_of (after 10) n ≡ with_seconds (set (row_of m n 10) w k) (store_of m n)
  seconds_after = λ i. record { starts = other 10 8 (λ e. omega arith) i; firsts = other 10 9 (λ e. omega arith) i; seconds = row_here m n 10 w k h i; finishes = other 10 11 (λ e. omega arith) i; throughs = other 10 12 (λ e. omega arith) i }

  finishes_after : store_of (after 11) n ≡ with_finishes (set (row_of m n 11) w k) (store_of m n)
  finishes_after = λ i. record { starts = other 11 8 (λ e. omega arith) i; firsts = other 11 9 (λ e. omega arith) i; seconds = other 11 10 (λ e. omega arith) i; finishes = row_here m n 11 w k h i; throughs = other 11 12 (λ e. omega arith) i }

  throughs_after : store_of (after 12) n ≡ with_throughs (set (row_of m n 12) w k) (store_of m n)
  throughs_after = λ i. record { starts = other 12 8 (λ e. omega arith) i; firsts = other 12 9 (λ e. omega arith) i; seconds = other 12 10 (λ e. omega arith) i; finishes = other 12 11 (λ e. omega arith) i; throughs = row_here m n 12 w k h i }

in_row : (n : ℕ) (m : List ℕ) → Room n m → (r w : ℕ) → r < 24 → w < n → w < length (row_of m n r)
in_row n m room r w k h = omega (arith, row_length n m room r k)

module _ (m : List ℕ) (n w : ℕ) (room : Room n m) (h : w < n) where
  abbrev c : List Making
  c = circuit_of m n

  abbrev s : Store
  s = store_of m n

  pub start_raised : Changed n m (begun_at w (flow_in m n)) (written m n 8 w (cell m n 8 w + 1))
  unfolding flow_in
  start_raised =
      let k : ℕ = cell m n 8 w + 1 in
      record {
        flow = flow_after m n w k room h 8 (omega arith, omega arith)
            ∙ ap (flow_of c) (starts_after m n w k room h)
            ∙ writes_are_changes.6 c s w (in_row n m room 8 w (omega arith) h);
        rest = only_written (Between 8 12) n m 8 w k h (omega arith, omega arith);
      }

  pub finish_raised : Changed n m (ended_at w (flow_in m n)) (written m n 11 w (cell m n 11 w + 1))
  unfolding flow_in
  finish_raised =
      let k : ℕ = cell m n 11 w + 1 in
      record {
        flow = flow_after m n w k room h 11 (omega arith, omega arith)
            ∙ ap (flow_of c) (finishes_after m n w k room h)
            ∙ writes_are_changes.7 c s w (in_row n m room 11 w (omega arith) h);
        rest = only_written (Between 8 12) n m 11 w k h (omega arith, omega arith);
      }

  pub through_raised : Changed n m (with_through (more_at w (flow_in m n).through) (flow_in m n)) (written m n 12 w (cell m n 12 w + 1))
  unfolding flow_in
  through_raised =
      let k : ℕ = cell m n 12 w + 1 in
      record {
        flow = flow_after m n w k room h 12 (omega arith, omega arith)
            ∙ ap (flow_of c) (throughs_after m n w k room h)
            ∙ writes_are_changes.0 c s w (in_row n m room 12 w (omega arith) h);
        rest = only_written (Between 8 12) n m 12 w k h (omega arith, omega arith);
      }

  pub through_lowered : Changed n m (with_through (less_at w (flow_in m n).through) (flow_in m n)) (written m n 12 w (cell m n 12 w - 1))
  unfolding flow_in
  through_lowered =
      let k : ℕ = cell m n 12 w - 1 in
      record {
        flow = flow_after m n w k room h 12 (omega arith, omega arith)
            ∙ ap (flow_of c) (throughs_after m n w k room h)
            ∙ writes_are_changes.1 c s w (in_row n m room 12 w (omega arith) h);
        rest = only_written (Between 8 12) n m 12 w k h (omega arith, omega arith);
      }

  pub first_raised : (v : ℕ) → First (at c w) v → Changed n m (with_along (more_along v w (flow_in m n).along) (flow_in m n)) (written m n 9 w (cell m n 9 w + 1))
  unfolding flow_in
  first_raised v f =
      let k : ℕ = cell m n 9 w + 1 in
      record {
        flow = flow_after m n w k room h 9 (omega arith, omega arith)
            ∙ ap (flow_of c) (firsts_after m n w k room h)
            ∙ writes_are_changes.2 c s v w f (in_row n m room 9 w (omega arith) h);
        rest = only_written (Between 8 12) n m 9 w k h (omega arith, omega arith);
      }

  pub first_lowered : (v : ℕ) → First (at c w) v → 0 < cell m n 9 w → Changed n m (with_along (less_along v w (flow_in m n).along) (flow_in m n)) (written m n 9 w (cell m n 9 w - 1))
  unfolding flow_in
  first_lowered v f p =
      let k : ℕ = cell m n 9 w - 1 in
      record {
        flow = flow_after m n w k room h 9 (omega arith, omega arith)
            ∙ ap (flow_of c) (firsts_after m n w k room h)
            ∙ writes_are_changes.3 c s v w f (in_row n m room 9 w (omega arith) h) p;
        rest = only_written (Between 8 12) n m 9 w k h (omega arith, omega arith);
      }

  pub second_raised : (v : ℕ) → Second (at c w) v → Changed n m (with_along (more_along v w (flow_in m n).along) (flow_in m n)) (written m n 10 w (cell m n 10 w + 1))
  unfolding flow_in
  second_raised v f =
      let k : ℕ = cell m n 10 w + 1 in
      record {
        flow = flow_after m n w k room h 10 (omega arith, omega arith)
            ∙ ap (flow_of c) (seconds_after m n w k room h)
            ∙ writes_are_changes.4 c s v w f (in_row n m room 10 w (omega arith) h);
        rest = only_written (Between 8 12) n m 10 w k h (omega arith, omega arith);
      }

  pub second_lowered : (v : ℕ) → Second (at c w) v → 0 < cell m n 10 w → Changed n m (with_along (less_along v w (flow_in m n).along) (flow_in m n)) (written m n 10 w (cell m n 10 w - 1))
  unfolding flow_in
  second_lowered v f p =
      let k : ℕ = cell m n 10 w - 1 in
      record {
        flow = flow_after m n w k room h 10 (omega arith, omega arith)
            ∙ ap (flow_of c) (seconds_after m n w k room h)
            ∙ writes_are_changes.5 c s v w f (in_row n m room 10 w (omega arith) h) p;
        rest = only_written (Between 8 12) n m 10 w k h (omega arith, omega arith);
      }

-- the operand that a unit comes from, by the memory
pub is_first : (m : List ℕ) (n v w : ℕ) → Passes (circuit_of m n) w v → cell m n 1 w ≡ v → First (at (circuit_of m n) w) v
is_first m n v w f e =
    subst (λ k. First k v) (sym (circuit_at m n w))
    (passes_first (cell m n 0 w) (cell m n 1 w) (cell m n 2 w) v (subst (λ k. PassesOn k v) (circuit_at m n w) f) (sym e))

pub is_second : (m : List ℕ) (n v w : ℕ) → Passes (circuit_of m n) w v → (cell m n 1 w ≡ v → ⊥) → Second (at (circuit_of m n) w) v
is_second m n v w f e =
    subst (λ k. Second k v) (sym (circuit_at m n w))
    (passes_second (cell m n 0 w) (cell m n 1 w) (cell m n 2 w) v (subst (λ k. PassesOn k v) (circuit_at m n w) f) (λ k. e (sym k)))

pub along_passes : (m : List ℕ) (n v w : ℕ) → 0 < (flow_in m n).along v w → Passes (circuit_of m n) w v
along_passes m n v w h = slots_passes (at (circuit_of m n) w) (cell m n 9 w) (cell m n 10 w) v (subst (λ k. 0 < k) (along_is m n v w) h)

pub unit_from : (m : List ℕ) (n v w : ℕ) → 0 < (flow_in m n).along v w
    → ((v ≡ cell m n 1 w) × (0 < cell m n 0 w) × (cell m n 0 w < 4) × (0 < cell m n 9 w)) ⊎ ((v ≡ cell m n 2 w) × (cell m n 0 w ≡ 3) × (0 < cell m n 10 w))
unit_from m n v w h =
    slots_from (cell m n 0 w) (cell m n 1 w) (cell m n 2 w) (cell m n 9 w) (cell m n 10 w) v
    (subst (λ k. 0 < slots k (cell m n 9 w) (cell m n 10 w) v) (circuit_at m n w) (subst (λ k. 0 < k) (along_is m n v w) h))

pub from_second : (m : List ℕ) (n v w : ℕ) → 0 < (flow_in m n).along v w → ((cell m n 1 w ≡ v) × (0 < cell m n 9 w) → ⊥)
    → Second (at (circuit_of m n) w) v × (0 < cell m n 10 w)
from_second m n v w h no-first =
    ⊎_elim (λ t. absurd (no-first (sym t.0, t.3)))
    (λ t. (
      subst₂ Second (sym (circuit_at m n w)) (sym t.0) (kind_second (cell m n 0 w) (cell m n 1 w) (cell m n 2 w) t.1),
      t.2,
    ))
    (unit_from m n v w h)

-- units in the rows of the operands come from them
pub first_units : (m : List ℕ) (n w : ℕ) → 0 < cell m n 0 w → cell m n 0 w < 4 → 0 < cell m n 9 w → 0 < (flow_in m n).along (cell m n 1 w) w
first_units m n w lo hi l =
    omega (
      arith,
      along_is m n (cell m n 1 w) w,
      first_within (at (circuit_of m n) w) (cell m n 9 w) (cell m n 10 w) (cell m n 1 w)
          (subst (λ k. First k (cell m n 1 w)) (sym (circuit_at m n w)) (kind_first (cell m n 0 w) (cell m n 1 w) (cell m n 2 w) lo hi)),
    )

pub second_units : (m : List ℕ) (n w : ℕ) → cell m n 0 w ≡ 3 → 0 < cell m n 10 w → 0 < (flow_in m n).along (cell m n 2 w) w
second_units m n w e l =
    omega (
      arith,
      along_is m n (cell m n 2 w) w,
      second_within (at (circuit_of m n) w) (cell m n 9 w) (cell m n 10 w) (cell m n 2 w)
          (subst (λ k. Second k (cell m n 2 w)) (sym (circuit_at m n w)) (kind_second (cell m n 0 w) (cell m n 1 w) (cell m n 2 w) e)),
    )

pub changed_at : {n : ℕ} {m : List ℕ} {y : Flow} {a b : List ℕ} → b ≡ a → Changed n m y a → Changed n m y b
changed_at {n = n} {m = m} {y = y} e h = subst (Changed n m y) (sym e) h

pub changed_to : {n : ℕ} {m : List ℕ} {x y : Flow} {a : List ℕ} → y ≡ x → Changed n m x a → Changed n m y a
changed_to {n = n} {m = m} {a = a} e h = subst (λ z. Changed n m z a) (sym e) h
