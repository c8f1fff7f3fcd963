-- The steps out of each place, by number, for a search. A step that cannot be made leads back to its own place, so that the number of steps
-- depends on the circuit alone.
use Rattle.std.specs.Prelude.{◌≡◌, ℕ, ◌+◌, ◌*◌, ◌/◌, ◌%◌, ◌<◌, Bool, cond, ◌&&◌, ◌||◌, ◌⊎◌, List, [], ◌∷◌, map, length, ◌==◌, nat_lt, slice_index}
use Rattle.routes.specs.Routes.{Passes, Ordered}
use Rattle.routes.specs.Plans.{ones}
use Rattle.routes.specs.Residuals.{Step}
use Rattle.rows.specs.Rows.{cell}
use Rattle.rows.specs.Held.{circuit_of, bars_of}
use Rattle.flows.specs.Kept.{flow_in}
use Rattle.flows.specs.Stacks.{place}

-- the list has q
abbrev pub In : ℕ → List ℕ → Type 0
In q xs = (i : ℕ) × (i < length xs) × (slice_index xs i ≡ q)

-- the kind of a copy, an inversion or a sum
abbrev pub passing_kind : ℕ → Bool
passing_kind k = nat_lt 0 k && nat_lt k 4

-- from p to the exit of v where it can be made and v is a wire
abbrev pub back_to : ℕ → ℕ → Bool → ℕ → ℕ
back_to n p can v = cond (can && nat_lt v n) (2 * v + 1) p

-- from the entry of w: to its own exit, and back to the exits of its operands where units come from them
abbrev pub entry_steps : List ℕ → ℕ → ℕ → ℕ → List ℕ
entry_steps m n p w =
    cond (bars_of m n w || nat_lt (cell m n 12 w) 1) (2 * w + 1) p
    ∷ back_to n p (passing_kind (cell m n 0 w) && nat_lt 0 (cell m n 9 w)) (cell m n 1 w)
    ∷ back_to n p (cell m n 0 w == 3 && nat_lt 0 (cell m n 10 w)) (cell m n 2 w)
    ∷ []

-- from the exit of v: back to its own entry where a unit passes it, and on to the entries of the wires that it feeds
abbrev pub exit_steps : List ℕ → ℕ → (ℕ → List ℕ) → ℕ → ℕ → List ℕ
exit_steps m n feeds p v = cond (nat_lt 0 (cell m n 12 v)) (2 * v) p ∷ map (λ w. cond (nat_lt w n) (2 * w) p) (feeds v)

-- the steps out of the place with the number p
unfoldable pub residual : List ℕ → ℕ → (ℕ → List ℕ) → ℕ → List ℕ
residual m n feeds p = cond (p % 2 == 0) (entry_steps m n p (p / 2)) (exit_steps m n feeds p (p / 2))

-- how many steps there are out of a place
abbrev pub degree : (ℕ → List ℕ) → ℕ → ℕ
degree feeds p = cond (p % 2 == 0) 3 (length (feeds (p / 2)) + 1)

-- the lists hold the wires that each wire feeds
pub record Feeds (m : List ℕ) (n : ℕ) (feeds : ℕ → List ℕ) : Type 0 where
  pub right : (v w : ℕ) → In w (feeds v) → Passes (circuit_of m n) w v
  pub all : (v w : ℕ) → Passes (circuit_of m n) w v → In w (feeds v)

-- whatever the memory holds, there are as many steps as the lists say
abbrev pub ResidualLength : Type 0
ResidualLength = (m : List ℕ) (n : ℕ) (feeds : ℕ → List ℕ) (p : ℕ) → length (residual m n feeds p) ≡ degree feeds p

-- and they lead to places of the wires
abbrev pub ResidualInside : Type 0
ResidualInside = (m : List ℕ) (n : ℕ) (feeds : ℕ → List ℕ) (p q : ℕ) → p < 2 * n → In q (residual m n feeds p) → q < 2 * n

-- the numbers' steps are the flow's
abbrev pub ResidualSteps : Type 0
ResidualSteps =
    (m : List ℕ) (n : ℕ) (feeds : ℕ → List ℕ) → Ordered (circuit_of m n) → Feeds m n feeds → (p q : ℕ)
    → (In q (residual m n feeds p) → (q ≡ p) ⊎ Step (circuit_of m n) (bars_of m n) ones (flow_in m n) (place p) (place q))
    × (Step (circuit_of m n) (bars_of m n) ones (flow_in m n) (place p) (place q) → In q (residual m n feeds p))
