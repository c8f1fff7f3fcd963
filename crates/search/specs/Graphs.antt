-- What a graph means, and what its steps reach.
use Rattle.std.specs.Prelude.{◌≡◌, ℕ, ◌<◌, Bool, true, false, List, [], length, slice_index, slice_index_or}

-- how many places there are, and how many numbers at the front of the memory the lists take; and, by these numbers, the steps out of each place,
-- the places that are looked for and the places to start from, all places by number
pub record Meaning : Type 0 where
  pub many : ℕ
  pub extent : ℕ
  pub steps : List ℕ → List (List ℕ)
  pub goal : List ℕ → ℕ → Bool
  pub chosen : List ℕ → ℕ → Bool

-- the same graph, with no place looked for
abbrev pub goalless : Meaning → Meaning
goalless t = record t { goal = λ f p. false }

-- the steps out of place p
abbrev pub row : List (List ℕ) → ℕ → List ℕ
row lists p = slice_index_or lists p []

-- a step leads from p to q
abbrev pub Step : List (List ℕ) → ℕ → ℕ → Type 0
Step lists p q = (i : ℕ) × (i < length (row lists p)) × (slice_index (row lists p) i ≡ q)

-- steps lead from a chosen place below n to q
pub data Reaches (n : ℕ) (lists : List (List ℕ)) (chosen : ℕ → Bool) : ℕ → Type 0 where
  start : {q : ℕ} → q < n → chosen q ≡ true → Reaches n lists chosen q
  onward : {p q : ℕ} → Reaches n lists chosen p → Step lists p q → Reaches n lists chosen q

-- there are n lists, and each step leads to a place below n
pub record Inside (n : ℕ) (lists : List (List ℕ)) : Type 0 where
  pub many : length lists ≡ n
  pub leads : (p i : ℕ) → p < n → i < length (row lists p) → slice_index (row lists p) i < n
