-- A set of wires as ascending ranks in lent memory.
use Rattle.std.specs.Prelude.{◌≡◌, ℕ, ◌<◌, ◌≤◌, ◌&&◌, List, length, take, drop, nat_lt}
use Rattle.std.specs.List.{AllByRecursion}
use Rattle.circuits.specs.Levels.{has}
use Rattle.routes.specs.Routes.{Wires}
use Rattle.routes.specs.Ranks.{Ascending}
use Rattle.routes.specs.Sums.{sum_of, ranks, one_if}

-- how many wires below n the set has
abbrev pub count : Wires → ℕ → ℕ
count p n = sum_of (λ w. one_if (p w)) (ranks n)

-- the first numbers of `out` are the wires of the set below w, ascending, and the rest is as in `before`
pub record Listing (p : Wires) (w len : ℕ) (before out : List ℕ) : Type 0 where
  pub ascending : Ascending (take len out)
  pub lower : AllByRecursion (λ u. u < w) (take len out)
  pub wires : (u : ℕ) → has u (take len out) ≡ (nat_lt u w && p u)
  pub many : len ≡ count p w
  pub long : len ≤ length out
  pub rest : drop len out ≡ drop len before
