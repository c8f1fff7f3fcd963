-- Rows and writes.
use Rattle.std.proofs.Common.{◌≡◌, ℕ, suc, ◌+◌, ◌-◌, ◌*◌, ◌<◌, ◌≤◌, cond, eqb, List, ◌++◌, length, replicate, get_or, take, drop, set, sym, refl, ap, ◌∙◌, subst, ⊎_elim, mul-le-mul_right, suc-mul, arith, length-drop, length-set, length-take, get_or-drop, get_or-take, drop-set-lt}
use lib.Seq.{take-set-lt, take-set-le, drop-set-add}
use Rattle.std.proofs.lemmas.List.{get_or-set_same, get_or-set_other, length-replicate, get_or_append_left, get_or-append_right, get_or-replicate}
use Rattle.std.proofs.lemmas.Bool.{cases_eq, cases_order, eq-eqb, ne_eqb}
use Rattle.rows.specs.declared.rows.Row.{Row}
use Rattle.rows.specs.declared.rows.Row.TheVariants as row
use Rattle.rows.specs.Rows.{Room, row_of, cell, written, row_number, Wiped, Only}

-- a lower row ends before a higher one begins
pub rows_apart : (n q r : ℕ) → q < r → q * n + n ≤ r * n
rows_apart n q r h = omega (arith, suc-mul q n, mul-le-mul_right {m = suc q} {n = r} n h)

pub row_end : (n : ℕ) (m : List ℕ) → Room n m → (r : ℕ) → r < 24 → r * n + n ≤ length m
row_end n m room r h = omega (arith, rows_apart n r 24 h, room.rows)

pub cell_at : (m : List ℕ) (n r w : ℕ) → w < n → cell m n r w ≡ get_or m (r * n + w) 0
unfolding row_of
cell_at m n r w h = get_or-take n (drop (r * n) m) w 0 h ∙ get_or-drop (r * n) m w 0

pub row_length : (n : ℕ) (m : List ℕ) → Room n m → (r : ℕ) → r < 24 → length (row_of m n r) ≡ n
unfolding row_of
row_length n m room r h = simp (length-take, length-drop) (omega (arith, row_end n m room r h))

-- a write changes one row
pub row_here : (m : List ℕ) (n r w k : ℕ) → w < n → row_of (written m n r w k) n r ≡ set (row_of m n r) w k
unfolding row_of
row_here m n r w k h = ap (take n) (drop-set-add (r * n) m w k) ∙ take-set-lt n (drop (r * n) m) w k h

pub row_else : (m : List ℕ) (n r w k q : ℕ) → w < n → (q ≡ r → ⊥) → row_of (written m n r w k) n q ≡ row_of m n q
unfolding row_of
row_else m n r w k q h ne =
    ⊎_elim (λ e. absurd (ne e))
    (⊎_elim
    (λ l. let past : n ≤ (r * n + w) - q * n = omega (arith, rows_apart n q r l) in
    let same : r * n + w ≡ q * n + ((r * n + w) - q * n) = omega (arith, rows_apart n q r l) in
    ap (λ i. take n (drop (q * n) (set m i k))) same
    ∙ ap (take n) (drop-set-add (q * n) m ((r * n + w) - q * n) k)
    ∙ take-set-le n (drop (q * n) m) ((r * n + w) - q * n) k past)
    (λ l. ap (take n) (drop-set-lt (q * n) m (r * n + w) k (omega (arith, rows_apart n r q l)))))
    (cases_order q r)

pub room_written : (m : List ℕ) (n r w k : ℕ) → Room n m → Room n (written m n r w k)
room_written m n r w k room = record { few = room.few; rows = simp length-set room.rows }

pub room_same : (n : ℕ) (m m' : List ℕ) → length m' ≡ length m → Room n m → Room n m'
room_same n m m' e room = record { few = room.few; rows = omega (arith, room.rows) }

-- a number after a write
pub cell_here : (m : List ℕ) (n r w k : ℕ) → Room n m → r < 24 → w < n → (u : ℕ) → cell (written m n r w k) n r u ≡ cond (eqb u w) k (cell m n r u)
cell_here m n r w k room l h u =
    ap (λ xs. get_or xs u 0) (row_here m n r w k h)
    ∙ ⊎_elim
    (λ e. let long : w < length (row_of m n r) = omega (arith, row_length n m room r l) in
    ap (λ i. get_or (set (row_of m n r) w k) i 0) e ∙ get_or-set_same (row_of m n r) w k 0 long
    ∙ sym (ap (λ t. cond t k (cell m n r u)) (eq-eqb u w e)))
    (λ ne. get_or-set_other (row_of m n r) w u k 0 ne ∙ sym (ap (λ t. cond t k (cell m n r u)) (ne_eqb u w ne)))
    (cases_eq u w)

pub cell_written : (m : List ℕ) (n r w k : ℕ) → Room n m → r < 24 → w < n → cell (written m n r w k) n r w ≡ k
cell_written m n r w k room l h = cell_here m n r w k room l h w ∙ ap (λ t. cond t k (cell m n r w)) (eq-eqb w w refl)

pub cell_other : (m : List ℕ) (n r w k : ℕ) → Room n m → r < 24 → w < n → (u : ℕ) → (u ≡ w → ⊥) → cell (written m n r w k) n r u ≡ cell m n r u
cell_other m n r w k room l h u ne = cell_here m n r w k room l h u ∙ ap (λ t. cond t k (cell m n r u)) (ne_eqb u w ne)

pub cell_else : (m : List ℕ) (n r w k q : ℕ) → w < n → (q ≡ r → ⊥) → (u : ℕ) → cell (written m n r w k) n q u ≡ cell m n q u
cell_else m n r w k q h ne u = ap (λ xs. get_or xs u 0) (row_else m n r w k q h ne)

-- which rows differ
module _ (R : ℕ → Type 0) (n : ℕ) where
  pub only_then : (m m' m'' : List ℕ) → Only R n m m' → Only R n m' m'' → Only R n m m''
  only_then m m' m'' a b r h = b r h ∙ a r h

  pub only_written : (m : List ℕ) (r w k : ℕ) → w < n → R r → Only R n m (written m n r w k)
  only_written m r w k h f q ne = row_else m n r w k q h (λ e. ne (subst R (sym e) f))

  pub only_wider : (S : ℕ → Type 0) (m m' : List ℕ) → ((r : ℕ) → S r → R r) → Only S n m m' → Only R n m m'
  only_wider S m m' wider o r h = o r (λ s. h (wider r s))

-- zeros in the place of a part
pub wiped_part : (m ys : List ℕ) (a b : ℕ) → a ≤ b → b ≤ length m → ys ≡ replicate (b - a) 0 → Wiped m (take a m ++ (ys ++ drop (b - a) (drop a m))) a b
wiped_part m ys a b h l e =
    record {
      inside = λ k from to.
          get_or-append_right (take a m) rest a k 0 before from
          ∙ get_or_append_left ys (drop (b - a) (drop a m)) 0 (k - a) (omega (arith, many))
          ∙ ap (λ zs. get_or zs (k - a) 0) e
          ∙ get_or-replicate (b - a) (k - a) 0 0 (omega arith);
      outside = λ k. ⊎_elim
          (λ low. get_or_append_left (take a m) rest 0 k (omega (arith, before)) ∙ get_or-take a m k 0 low)
          (λ high.
          get_or-append_right (take a m) rest a k 0 before (omega arith)
          ∙ get_or-append_right ys (drop (b - a) (drop a m)) (b - a) (k - a) 0 many (omega arith)
          ∙ get_or-drop (b - a) (drop a m) ((k - a) - (b - a)) 0
          ∙ get_or-drop a m ((b - a) + ((k - a) - (b - a))) 0
          ∙ ap (λ i. get_or m i 0) (place k high));
    }
  where
    rest : List ℕ
    rest = ys ++ drop (b - a) (drop a m)

    before : length (take a m) ≡ a
    before = simp length-take (omega arith)

    many : length ys ≡ b - a
    many = ap length e ∙ length-replicate (b - a) 0

    place : (k : ℕ) → b ≤ k → a + ((b - a) + ((k - a) - (b - a))) ≡ k
    place k high = omega arith

-- there are no more than 24 rows
pub row_low : (r : Row) → row_number r < 24
row_low row.Kind = omega arith
row_low row.First = omega arith
row_low row.Second = omega arith
row_low row.Bars = omega arith
row_low row.Goals = omega arith
row_low row.Lists = omega arith
row_low row.Fed = omega arith
row_low row.FedSecond = omega arith
row_low row.Start = omega arith
row_low row.FromFirst = omega arith
row_low row.FromSecond = omega arith
row_low row.Finish = omega arith
row_low row.Through = omega arith
row_low row.Marks = omega arith
row_low row.MarksSecond = omega arith
row_low row.Stack = omega arith
row_low row.StackSecond = omega arith
row_low row.Tried = omega arith
row_low row.TriedSecond = omega arith
row_low row.Ended = omega arith
row_low row.Spare = omega arith
row_low row.SpareSecond = omega arith
row_low row.SpareThird = omega arith
row_low row.SpareFourth = omega arith

pub part_long : (m : List ℕ) (a b : ℕ) → a ≤ b → b ≤ length m → length (take (b - a) (drop a m)) ≡ b - a
part_long m a b h l = simp (length-take, length-drop) (omega arith)
