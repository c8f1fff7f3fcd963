-- Where each unit ends, noted.
use Rattle.std.proofs.Common.{◌≡◌, ℕ, ◌+◌, ◌-◌, ◌<◌, ◌≤◌, cond, ◌*◌, ◌⊎◌, List, ◌++◌, length, take, drop, replicate, get_or, get_or-drop, get_or-take, length-append, length-drop, length-take, sym, ap, ◌∙◌, subst, subst₂, inl, inr, ⊎_elim, arith}
use Rattle.std.proofs.lemmas.Bool.{cases_lt, cases_order, eq-eqb, ne_eqb}
use Rattle.std.proofs.lemmas.List.{length-replicate, get_or_append_left, get_or-append_right, get_or-replicate, get_or_past}
use Rattle.routes.specs.Routes.{Ordered}
use Rattle.routes.specs.Sums.{sum_of, ranks}
use Rattle.routes.specs.Plans.{ones}
use Rattle.routes.proofs.Traces.{prefix_le, finish_value}
use Rattle.rows.specs.declared.rows.Rows.{Rows}
use Rattle.rows.specs.Rows.{Room, row_of, cell, written, Between, SameRows}
use Rattle.rows.proofs.Cells.{rows_apart, row_end, row_length, room_same, cell_at, part_long, cell_here, row_else, only_then, only_written, only_wider}
use Rattle.rows.specs.Held.{circuit_of, bars_of}
use Rattle.flows.specs.Kept.{flow_in, Flows, routes_in}
use Rattle.flows.specs.Units.{Ending}
use Rattle.flows.specs.Numbers.{Numbers, Numbering, Endings, Ended, Marked, Ready}
use Rattle.rows.proofs.HeldCircuit.{circuit_length}
use Rattle.flows.proofs.Kept.{circuit_kept, flow_kept, only_outside}
use Rattle.rows.proofs.Rooms.{room_of}
use Rattle.flows.proofs.Units.{sum_more}
use Rattle.flows.proofs.Numbers.{last_or_below}

-- one number in each place of a part
module _ (m ys : List ℕ) (a b k : ℕ) (h : a ≤ b) (l : b ≤ length m) (e : ys ≡ replicate (length (take (b - a) (drop a m))) k) where
  abbrev filled : List ℕ
  filled = take a m ++ (ys ++ drop (b - a) (drop a m))

  before : length (take a m) ≡ a
  before = simp length-take (omega arith)

  many : length ys ≡ b - a
  many = ap length e ∙ length-replicate (length (take (b - a) (drop a m))) k ∙ part_long m a b h l

  filled_long : length filled ≡ length m
  filled_long = simp (length-append, length-drop) (omega (arith, before, many))

  filled_inside : (i : ℕ) → a ≤ i → i < b → get_or filled i 0 ≡ k
  filled_inside i from to =
      get_or-append_right (take a m) (ys ++ drop (b - a) (drop a m)) a i 0 before from
      ∙ get_or_append_left ys (drop (b - a) (drop a m)) 0 (i - a) (omega (arith, many))
      ∙ ap (λ zs. get_or zs (i - a) 0) e
      ∙ get_or-replicate (length (take (b - a) (drop a m))) (i - a) k 0 (omega (arith, part_long m a b h l))

  filled_outside : (i : ℕ) → (i < a) ⊎ (b ≤ i) → get_or filled i 0 ≡ get_or m i 0
  filled_outside i =
      ⊎_elim
      (λ low. get_or_append_left (take a m) (ys ++ drop (b - a) (drop a m)) 0 i (omega (arith, before)) ∙ get_or-take a m i 0 low)
      (λ high.
      get_or-append_right (take a m) (ys ++ drop (b - a) (drop a m)) a i 0 before (omega arith)
      ∙ get_or-append_right ys (drop (b - a) (drop a m)) (b - a) (i - a) 0 many (omega arith)
      ∙ get_or-drop (b - a) (drop a m) ((i - a) - (b - a)) 0
      ∙ get_or-drop a m ((b - a) + ((i - a) - (b - a))) 0
      ∙ ap (λ j. get_or m j 0) (place i high))
    where
      place : (i : ℕ) → b ≤ i → a + ((b - a) + ((i - a) - (b - a))) ≡ i
      place i high = omega arith

-- a stretch of the row
module _ (n : ℕ) (m ys : List ℕ) (from to k a b : ℕ) (room : Room n m) (h : from ≤ to) (l : to ≤ n) (ea : a ≡ 18 * n + from) (eb : b ≡ 18 * n + to)
    (e : ys ≡ replicate (length (take (b - a) (drop a m))) k) where
  up : a ≤ b
  up = omega arith

  within : b ≤ length m
  within = omega (arith, row_end n m room 18 (omega arith))

  abbrev m' : List ℕ
  m' = filled m ys a b k up within e

  room' : Room n m'
  room' = room_same n m m' (filled_long m ys a b k up within e) room

  same : (r i : ℕ) → i < n → (r * n + i < a) ⊎ (b ≤ r * n + i) → cell m' n r i ≡ cell m n r i
  same r i low o = cell_at m' n r i low ∙ filled_outside m ys a b k up within e (r * n + i) o ∙ sym (cell_at m n r i low)

  off : (r i : ℕ) → i < n → (Between 18 18 r → ⊥) → (r * n + i < a) ⊎ (b ≤ r * n + i)
  off r i low ne =
      ⊎_elim (λ q. absurd (ne (omega arith, omega arith)))
      (⊎_elim (λ q. inl (omega (arith, rows_apart n r 18 q))) (λ q. inr (omega (arith, rows_apart n 18 r q)))) (cases_order r 18)

  pub marked : Marked n m (take a m ++ (ys ++ drop (b - a) (drop a m))) from to k
  marked =
      record {
        inside = λ i lo hi. cell_at m' n 18 i (omega (arith, l)) ∙ filled_inside m ys a b k up within e (18 * n + i) (omega arith) (omega arith);
        outside = λ i o. ⊎_elim
            (λ (low : i < n). same 18 i low (⊎_elim (λ q. inl (omega arith)) (λ q. inr (omega arith)) o))
            (λ (past : n ≤ i). get_or_past (row_of m' n 18) i 0 (omega (arith, row_length n m' room' 18 (omega arith)))
            ∙ sym (get_or_past (row_of m n 18) i 0 (omega (arith, row_length n m room 18 (omega arith)))))
            (cases_lt i n);
        rest = only_outside (Between 18 18) n m m' a b (filled_long m ys a b k up within e) (filled_outside m ys a b k up within e) (λ r i low ne. off r i low ne);
      }

-- one wire more: its sum is written, then its units are marked
module _ (n : ℕ) (m₀ m m₂ : List ℕ) (w total count : ℕ) (room : Room n m) (lw : w < n) (h : Ended n m₀ m w)
    (et : total ≡ sum_of (flow_in m₀ n).finish (ranks w)) (ec : count ≡ (flow_in m₀ n).finish w)
    (k : Marked n (written m n 19 w total) m₂ total (total + count) w) where
  abbrev m₁ : List ℕ
  m₁ = written m n 19 w total

  sums₂ : (u : ℕ) → u < w + 1 → cell m₂ n 19 u ≡ sum_of (flow_in m₀ n).finish (ranks u)
  sums₂ u l =
      ap (λ xs. get_or xs u 0) (k.rest 19 (λ f. omega arith))
      ∙ cell_here m n 19 w total room (omega arith) lw u
      ∙ ⊎_elim
      (λ q. ap (λ t. cond t total (cell m n 19 u)) (eq-eqb u w q) ∙ et ∙ ap (λ j. sum_of (flow_in m₀ n).finish (ranks j)) (sym q))
      (λ (q : u < w). ap (λ t. cond t total (cell m n 19 u)) (ne_eqb u w (λ z. omega arith)) ∙ h.endings.sums u q)
      (last_or_below u w l)

  ends₂ : (i : ℕ) → i < sum_of (flow_in m₀ n).finish (ranks (w + 1)) → Ending (flow_in m₀ n) (w + 1) i (cell m₂ n 18 i) (i - sum_of (flow_in m₀ n).finish (ranks (cell m₂ n 18 i)))
  ends₂ i l =
      ⊎_elim
      (λ (q : i < total).
      let same : cell m₂ n 18 i ≡ cell m n 18 i = k.outside i (inl q) ∙ ap (λ xs. get_or xs i 0) (row_else m n 19 w total 18 lw (λ e. omega arith)) in
      let old : Ending (flow_in m₀ n) w i (cell m n 18 i) (i - sum_of (flow_in m₀ n).finish (ranks (cell m n 18 i))) = h.endings.ends i (omega arith) in
      subst (λ u. Ending (flow_in m₀ n) (w + 1) i u (i - sum_of (flow_in m₀ n).finish (ranks u))) (sym same)
      (record { within = omega (arith, old.within); some = old.some; number = old.number }))
      (λ (q : total ≤ i).
      let more : sum_of (flow_in m₀ n).finish (ranks (w + 1)) ≡ sum_of (flow_in m₀ n).finish (ranks w) + (flow_in m₀ n).finish w = sum_more (flow_in m₀ n).finish w in
      subst (λ u. Ending (flow_in m₀ n) (w + 1) i u (i - sum_of (flow_in m₀ n).finish (ranks u))) (sym (k.inside i q (omega arith)))
      (record { within = omega arith; some = omega arith; number = omega arith }))
      (cases_lt i total)

  pub ended_more : Ended n m₀ m₂ (w + 1)
  ended_more =
      record {
        endings = record { sums = sums₂; ends = ends₂ };
        rest = only_then (Between 18 19) n m₀ m m₂ h.rest
            (only_then (Between 18 19) n m m₁ m₂ (only_written (Between 18 19) n m 19 w total lw (omega arith, omega arith))
            (only_wider (Between 18 19) n (Between 18 18) m₁ m₂ (λ r f. (f.0, omega (arith, f.1))) k.rest));
      }

-- the units that end below a wire are no more than all
ends_fit : (n : ℕ) (m : List ℕ) → Room n m → Ordered (circuit_of m n) → Flows n m → (w : ℕ) → w < n
    → sum_of (flow_in m n).finish (ranks w) + (flow_in m n).finish w ≤ routes_in m n
ends_fit n m room ordered flows w l =
    omega (
      arith,
      prefix_le (flow_in m n).finish w (length (circuit_of m n)) (omega (arith, circuit_length m n room)),
      finish_value (circuit_of m n) ordered (bars_of m n) ones (flow_in m n) flows,
    )

-- what was read of a wire
module _ (s t : Rows) (same : SameRows s t) (w total count : ℕ) (lw : w < s.wires) (h : Ended s.wires s.memory.now t.memory.now w)
    (read : count ≡ cell t.memory.now t.wires 11 w) where
  pub count_is : count ≡ (flow_in s.memory.now s.wires).finish w
  unfolding flow_in
  count_is = read ∙ ap (λ n. cell t.memory.now n 11 w) same.wires ∙ ap (λ xs. get_or xs w 0) (h.rest 11 (λ f. omega arith))

  pub total_fits : Ordered (circuit_of s.memory.now s.wires) → Flows s.wires s.memory.now → total ≡ sum_of (flow_in s.memory.now s.wires).finish (ranks w)
      → total + count ≤ routes_in s.memory.now s.wires
  total_fits ordered flows et = omega (arith, ends_fit s.wires s.memory.now (room_of s) ordered flows w lw, count_is)

pub ended_at : (n : ℕ) (m : List ℕ) → Room n m → Ordered (circuit_of m n) → Flows n m → Endings (flow_in m n) n m n → (i : ℕ) → i < routes_in m n
    → Ending (flow_in m n) n i (cell m n 18 i) (i - sum_of (flow_in m n).finish (ranks (cell m n 18 i)))
ended_at n m room ordered flows h i l =
    h.ends i (omega (
      arith,
      finish_value (circuit_of m n) ordered (bars_of m n) ones (flow_in m n) flows,
      ap (λ k. sum_of (flow_in m n).finish (ranks k)) (circuit_length m n room),
    ))

-- both
pub ready : (n : ℕ) (m m₁ m₂ : List ℕ) → Ended n m m₁ n → Numbering n m₁ m₂ n → Ready n m₂
ready n m m₁ m₂ e p =
    record {
      numbers = subst₂ (λ c x. Numbers c x n m₂ n) (sym (circuit_kept (Between 15 17) n m₁ m₂ (λ r l f. omega arith) p.rest)) (sym (flow_kept (Between 15 17) n m₁ m₂ (λ r l f. omega arith) p.rest)) p.numbers;
      endings = record {
        sums = λ w l. ap (λ xs. get_or xs w 0) (p.rest 19 (λ f. omega arith)) ∙ e.endings.sums w l ∙ ap (λ x. sum_of x.finish (ranks w)) (sym all);
        ends = λ i l.
            subst₂ (λ x u. Ending x n i u (i - sum_of x.finish (ranks u))) (sym all) (sym (ap (λ xs. get_or xs i 0) (p.rest 18 (λ f. omega arith))))
            (e.endings.ends i (subst (λ x. i < sum_of x.finish (ranks n)) all l));
      };
    }
  where
    all : flow_in m₂ n ≡ flow_in m n
    all = flow_kept (Between 15 17) n m₁ m₂ (λ r l f. omega arith) p.rest ∙ flow_kept (Between 18 19) n m m₁ (λ r l f. omega arith) e.rest
