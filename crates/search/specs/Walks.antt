-- The turns of a search: what its inner functions promise to one another.
use Rattle.std.specs.Prelude.{◌≡◌, ℕ, zero, suc, ◌+◌, ◌-◌, ◌*◌, ◌^◌, ◌<◌, ◌≤◌, min, Bool, true, List, length, take, Ok, Err, Option, Result, MatchOption, slice_index, slice_set}
use Rattle.circuits.specs.Answers.{number_of}
use Rattle.circuits.specs.declared.answer.Refusal.{Refusal}
use Rattle.search.specs.Graphs.{Meaning, row}
use Rattle.search.specs.Rows.{mark, stacked, tried, needed, Kept}
use Rattle.search.specs.Searches.{Path, Fresh, Led, Spread, Served, Ends}
use Rattle.search.specs.declared.Found.{Found}

-- f 0 + .. + f (k - 1)
unfoldable pub sum_to : (ℕ → ℕ) → ℕ → ℕ
sum_to f zero = 0
sum_to f (suc k) = sum_to f k + f k

-- how many places are marked
abbrev pub tally : ℕ → ℕ → List ℕ → ℕ
tally base n m = sum_to (λ p. min 1 (mark base m p)) n

-- the marks are 0
abbrev pub Clear : ℕ → ℕ → List ℕ → Type 0
Clear base n m = (p : ℕ) → p < n → mark base m p ≡ 0

-- h places are on the stack, and no more than are marked
pub record Stack (base n : ℕ) (m : List ℕ) (h : ℕ) : Type 0 where
  pub room : base + 3 * n ≤ length m
  pub count : h ≤ tally base n m
  pub below : (k : ℕ) → k < h → stacked base n m k < n

-- the memory with p marked and on top of h others, none of its steps tried
abbrev pub pushed : ℕ → ℕ → List ℕ → ℕ → ℕ → List ℕ
pushed base n m h p = slice_set (slice_set (slice_set m (base + p) 1) (base + n + h) p) (base + n + n + p) 0

-- the memory where v steps of p are tried
abbrev pub moved : ℕ → ℕ → List ℕ → ℕ → ℕ → List ℕ
moved base n m p v = slice_set m (base + n + n + p) v

-- the steps of p from number `from` on, below `end`, lead to marked places
abbrev pub Passed : List (List ℕ) → ℕ → List ℕ → ℕ → ℕ → ℕ → Type 0
Passed lists base m p from end = (j : ℕ) → from ≤ j → j < end → 0 < mark base m (slice_index (row lists p) j)

-- the step of p at i is the first from `from` on that leads to an unmarked place, which is q
pub record Opens (lists : List (List ℕ)) (base : ℕ) (m : List ℕ) (p from i q : ℕ) : Type 0 where
  pub low : from ≤ i
  pub high : i < length (row lists p)
  pub small : i + 1 < 2 ^ 32
  pub leads : slice_index (row lists p) i ≡ q
  pub free : mark base m q ≡ 0
  pub passed : Passed lists base m p from i

-- one turn at the top place p of the stack: its next step to an unmarked place is made, or it is taken off where there is none
pub data Turned (lists : List (List ℕ)) (base n : ℕ) (m : List ℕ) (h p : ℕ) (m' : List ℕ) (r : ℕ) : Type 0 where
  popped : Passed lists base m p (tried base n m p) (length (row lists p)) → m' ≡ m → r + 1 ≡ h → Turned lists base n m h p m' r
  stepped : (i q : ℕ) → Opens lists base m p (tried base n m p) i q
      → m' ≡ moved base n (pushed base n m h q) p (i + 1) → r ≡ h + 1
      → Turned lists base n m h p m' r

-- What holds of a walk that began at the memory m₀, whatever marks that had, and has h places on its stack.
pub record Walk (lists : List (List ℕ)) (goal chosen : ℕ → Bool) (base n : ℕ) (m₀ m : List ℕ) (h : ℕ) : Type 0 where
  pub kept : Kept base (base + 3 * n) m₀ m
  pub stack : Stack base n m h
  pub path : Path lists chosen base n m h
  pub ours : (k : ℕ) → k < h → Fresh (mark base m₀) base m (stacked base n m k)
  pub led : (k : ℕ) → k < h → Led lists base m (stacked base n m k) (tried base n m (stacked base n m k))
  pub spread : Spread lists goal chosen base n (mark base m₀) m h

-- a walk over the graph t, in the memory that has f in front
abbrev pub On : Meaning → ℕ → ℕ → List ℕ → List ℕ → List ℕ → ℕ → Type 0
On t base n f = Walk (t.steps f) (t.goal f) (t.chosen f) base n

-- the walk stands at a goal
pub record Arrived (t : Meaning) (base n : ℕ) (m₀ m : List ℕ) (h : ℕ) : Type 0 where
  pub walk : On t base n (take base m₀) m₀ m h
  pub some : 0 < h
  pub last : t.goal (take base m₀) (stacked base n m (h - 1)) ≡ true

-- a walk from the place p: to a goal, with p at the bottom of the stack, or until nothing is left on it
abbrev pub Dived : Meaning → ℕ → ℕ → List ℕ → ℕ → List ℕ → Option ℕ → Type 0
Dived t base n m₀ p m r = MatchOption r (On t base n (take base m₀) m₀ m 0) (λ h. Arrived t base n m₀ m h × (stacked base n m 0 ≡ p))

-- a walk from the chosen places from `from` on
pub record Hit (t : Meaning) (base n : ℕ) (m₀ m : List ℕ) (from h next : ℕ) : Type 0 where
  pub arrived : Arrived t base n m₀ m h
  pub begun : next ≡ stacked base n m 0 + 1
  pub further : from < next
  pub within : next ≤ n
  pub served : Served (t.chosen (take base m₀)) base m from next

abbrev pub Hunted : Meaning → ℕ → ℕ → List ℕ → List ℕ → ℕ → Option Found → Type 0
Hunted t base n m₀ m from =
    Ends (λ h next. Hit t base n m₀ m from h next)
    (On t base n (take base m₀) m₀ m 0 × Served (t.chosen (take base m₀)) base m from n)

-- refused by 11 where the memory is too short for the lists and the rows of a graph; else as told
abbrev pub Placed : {A : Type 0} → Meaning → List ℕ → (A → Type 0) → Result A Refusal → Type 0
Placed t m told (Ok w) = (needed t ≤ length m) × told w
Placed t m told (Err e) = (length m < needed t) × (number_of e ≡ 11)
