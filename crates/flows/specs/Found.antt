-- What a search over the steps by number gives: a path to grow along, or marks that close.
use Rattle.std.specs.Prelude.{◌≡◌, ℕ, ◌+◌, ◌-◌, ◌*◌, ◌/◌, ◌%◌, ◌<◌, ◌≤◌, Bool, true, false, not, ◌&&◌, ◌↔◌, List, ◌==◌, ◌≢◌, nat_lt, slice_index}
use Rattle.routes.specs.Routes.{Ends, Ordered}
use Rattle.routes.specs.Plans.{ones}
use Rattle.routes.specs.Residuals.{Place, Closed}
use Rattle.rows.specs.Rows.{cell}
use Rattle.rows.specs.Held.{circuit_of, bars_of}
use Rattle.flows.specs.Kept.{flow_in}
use Rattle.flows.specs.Stacks.{numbered, stacked, Stack}
use Rattle.flows.specs.Residual.{In, residual, Feeds}

-- entries of products
abbrev pub chosen : List ℕ → ℕ → ℕ → Bool
chosen m n p = p % 2 == 0 && cell m n 0 (p / 2) == 4

-- exits of wires that are flagged
abbrev pub goal : List ℕ → ℕ → ℕ → Bool
goal m n p = not (p % 2 == 0) && nat_lt 0 (cell m n 4 (p / 2))

-- the flags are those of the operands of products
abbrev pub Goals : List ℕ → ℕ → Type 0
Goals m n = (w : ℕ) → (0 < cell m n 4 w) ↔ Ends (circuit_of m n) w

-- steps lead to a place from a chosen one
pub data Comes (m : List ℕ) (n : ℕ) (feeds : ℕ → List ℕ) : ℕ → Type 0 where
  start : {q : ℕ} → q < 2 * n → chosen m n q ≡ true → Comes m n feeds q
  onward : {p q : ℕ} → Comes m n feeds p → In q (residual m n feeds p) → Comes m n feeds q

-- a path to a goal lies on the stack
pub record Found (m : List ℕ) (n : ℕ) (feeds : ℕ → List ℕ) (h : ℕ) : Type 0 where
  pub some : 0 < h
  pub low : h ≤ 2 * n
  pub below : (k : ℕ) → k < h → stacked m n k < 2 * n
  pub first : chosen m n (stacked m n 0) ≡ true
  pub steps : (k : ℕ) → k + 1 < h → In (stacked m n (k + 1)) (residual m n feeds (stacked m n k))
  pub apart : (j k : ℕ) → j < k → k < h → stacked m n j ≢ stacked m n k
  pub last : goal m n (stacked m n (h - 1)) ≡ true

-- exactly what steps reach is marked, from row 13 on, and no goal
pub record Missed (m : List ℕ) (n : ℕ) (feeds : ℕ → List ℕ) : Type 0 where
  pub sound : (p : ℕ) → p < 2 * n → 0 < slice_index m (13 * n + p) → Comes m n feeds p
  pub complete : (p : ℕ) → Comes m n feeds p → (p < 2 * n) × (0 < slice_index m (13 * n + p))
  pub none : (p : ℕ) → Comes m n feeds p → goal m n p ≡ false

-- the marks, by place
abbrev pub marks : List ℕ → ℕ → Place → Bool
marks m n a = nat_lt (numbered a) (2 * n) && nat_lt 0 (slice_index m (13 * n + numbered a))

-- what was found is a path on the stack
abbrev pub FoundIsStack : Type 0
FoundIsStack =
    (m : List ℕ) (n : ℕ) (feeds : ℕ → List ℕ) → Ordered (circuit_of m n) → Feeds m n feeds → Goals m n
    → (h : ℕ) → Found m n feeds h → Stack n m h

-- where nothing was found, the marks are what steps reach, and no goal is among them
abbrev pub MissedIsClosed : Type 0
MissedIsClosed =
    (m : List ℕ) (n : ℕ) (feeds : ℕ → List ℕ) → Ordered (circuit_of m n) → Feeds m n feeds → Goals m n → Missed m n feeds
    → Closed (circuit_of m n) (bars_of m n) ones (flow_in m n) (marks m n)
