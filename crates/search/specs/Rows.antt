-- The search's part of the memory, past the lists: from `base` on n marks, then a stack of at most n places,
-- then for each place how many of its steps were tried.
use Rattle.std.specs.Prelude.{◌≡◌, ℕ, ◌+◌, ◌*◌, List, length, take, drop, slice_index}
use Rattle.search.specs.Graphs.{Meaning}

-- not 0 where p was come upon
abbrev pub mark : ℕ → List ℕ → ℕ → ℕ
mark base m p = slice_index m (base + p)

-- the place at position k of the stack, the bottom first
abbrev pub stacked : ℕ → ℕ → List ℕ → ℕ → ℕ
stacked base n m k = slice_index m (base + n + k)

-- how many steps of p were tried
abbrev pub tried : ℕ → ℕ → List ℕ → ℕ → ℕ
tried base n m p = slice_index m (base + n + n + p)

-- how many numbers the lists and the three rows take
abbrev pub needed : Meaning → ℕ
needed t = t.extent + 3 * t.many

-- the memory below `low` and from `high` on is as it was
pub record Kept (low high : ℕ) (before after : List ℕ) : Type 0 where
  pub len : length after ≡ length before
  pub front : take low after ≡ take low before
  pub rest : drop high after ≡ drop high before
