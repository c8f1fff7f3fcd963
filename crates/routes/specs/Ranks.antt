-- Plans as ascending ranks.
use Rattle.std.specs.Prelude.{◌≡◌, ℕ, ◌<◌, true, ◌↔◌, List, [], ◌∷◌}
use Rattle.std.specs.List.{AllByRecursion}
use Rattle.circuits.specs.Levels.{has, produced_at, plan_fits}
use Rattle.circuits.specs.declared.making.Making.{Making}

-- each number is lower than those after it
abbrev pub Ascending : List ℕ → Type 0
Ascending [] = Unit {0}
Ascending (x ∷ xs) = AllByRecursion (λ y. x < y) xs × Ascending xs

-- a plan that the level run takes is ascending ranks of produced wires
abbrev pub PlansAreAscending : Type 0
PlansAreAscending =
    (c : List Making) (plan : List ℕ) → (plan_fits c 0 plan ≡ true) ↔ (Ascending plan × AllByRecursion (λ w. produced_at c w ≡ true) plan)

-- a set has one ascending list
abbrev pub OneAscendingList : Type 0
OneAscendingList = (p q : List ℕ) → Ascending p → Ascending q → ((w : ℕ) → has w p ≡ has w q) → p ≡ q
