-- Small circuits, with what becomes of each.
use Rattle.std.specs.Prelude.{◌≡◌, ℕ, ◌+◌, true, ◌⊎◌, List, [], ◌∷◌, Some}
use Rattle.std.specs.List.{AllByRecursion}
use Rattle.circuits.specs.Circuits.{Meaning, Lawful}
use Rattle.circuits.specs.Growths.{Tables, Grows, exponential}
use Rattle.circuits.specs.Levels.{rules, run_from, IsClean}
use Rattle.circuits.specs.Matchings.{matching}
use Rattle.circuits.specs.Tables.{tabled}
use Rattle.circuits.specs.declared.making.Entry.{Entry}
use Rattle.circuits.specs.declared.making.Making.{Making}
use Rattle.circuits.specs.declared.making.Making.TheVariants.{Input, Inversion, Sum, Product}
use Rattle.routes.specs.Routes.{Operand, IsProduct, Wires, Route}
use Rattle.routes.specs.Plans.{wires_of, EarliestSmallest}

-- the entries of a table in which each wire is named by its rank, from k on
abbrev pub entries_from : ℕ → List Making → List Entry
entries_from k [] = []
entries_from k (m ∷ ms) = record { making = m; name = k } ∷ entries_from (k + 1) ms

-- the circuit of such a table, with its counts of inputs and outputs
abbrev pub named_by_rank : ℕ → ℕ → List Making → Meaning
named_by_rank inputs outputs ms = tabled (entries_from 0 ms) inputs outputs

-- 4 = 0 · 1, 5 = 2 · 3, 6 = 4 · 5
abbrev pub product_of_products : Meaning
product_of_products = named_by_rank 4 1 (Input ∷ Input ∷ Input ∷ Input ∷ Product 0 1 ∷ Product 2 3 ∷ Product 4 5 ∷ [])

-- 4 = 0 · 1, 5 = 2 · 3, 6 = 4 + 5, 7 = 6 · 0, 8 = 6 · 1
abbrev pub sum_between : Meaning
sum_between = named_by_rank 4 2 (Input ∷ Input ∷ Input ∷ Input ∷ Product 0 1 ∷ Product 2 3 ∷ Sum 4 5 ∷ Product 6 0 ∷ Product 6 1 ∷ [])

-- 2 = 0 · 1, 3 = 2 + 0, 4 = 2 + 1, 5 = 3 · 4
abbrev pub two_sums_of_one : Meaning
two_sums_of_one = named_by_rank 2 1 (Input ∷ Input ∷ Product 0 1 ∷ Sum 2 0 ∷ Sum 2 1 ∷ Product 3 4 ∷ [])

-- 2 = 0 · 1, 3 = not 2, 4 = 3 · 0
abbrev pub inversion_between : Meaning
inversion_between = named_by_rank 2 1 (Input ∷ Input ∷ Product 0 1 ∷ Inversion 2 ∷ Product 3 0 ∷ [])

-- 2 = 0 · 1, 3 = 2 · 0, 4 = 3 · 0
abbrev pub three_products : Meaning
three_products = named_by_rank 2 1 (Input ∷ Input ∷ Product 0 1 ∷ Product 2 0 ∷ Product 3 0 ∷ [])

-- what can become of a circuit
pub data Expected : Type 0 where
  -- this is the earliest smallest plan
  plan_is : List ℕ → Expected
  -- this route has only barred wires
  blocked_by : List ℕ → Expected
  -- under this plan the exponential levels pass limit two first at this rank, with this level
  overruns : List ℕ → ℕ → ℕ → Expected

-- that this becomes of the circuit with its barred wires
abbrev pub Becomes : Meaning → Wires → Expected → Type 0
Becomes m barred (plan_is plan) = EarliestSmallest m.makings barred plan
Becomes m barred (blocked_by r) = Route m.makings r × AllByRecursion (λ w. barred w ≡ true) r
Becomes m barred (overruns plan rank level) = (run_from (rules exponential 2 1) plan [] m.makings).answer ≡ Some (record { rank = rank; level = level })

-- a circuit, its barred wires, and what becomes of it
pub record Job : Type 0 where
  pub circuit : Meaning
  pub bars : List ℕ
  pub expected : Expected

-- the small jobs
abbrev pub jobs : List Job
jobs =
    record { circuit = product_of_products; bars = []; expected = plan_is (4 ∷ 5 ∷ []) }
    ∷ record { circuit = sum_between; bars = []; expected = plan_is (6 ∷ []) }
    ∷ record { circuit = two_sums_of_one; bars = []; expected = plan_is (2 ∷ []) }
    ∷ record { circuit = inversion_between; bars = []; expected = plan_is (2 ∷ []) }
    ∷ record { circuit = inversion_between; bars = 2 ∷ []; expected = plan_is (3 ∷ []) }
    ∷ record { circuit = inversion_between; bars = 2 ∷ 3 ∷ []; expected = blocked_by (2 ∷ 3 ∷ []) }
    ∷ record { circuit = three_products; bars = []; expected = plan_is (2 ∷ 3 ∷ []) }
    ∷ record { circuit = matching 4; bars = []; expected = plan_is (16 ∷ 17 ∷ []) }
    ∷ record { circuit = three_products; bars = []; expected = overruns (3 ∷ []) 3 3 }
    ∷ []

-- each of the circuits is lawful, and becomes what is expected
abbrev pub SmallJobs : Type 0
SmallJobs = AllByRecursion (λ j. Lawful j.circuit × Becomes j.circuit (wires_of j.bars) j.expected) jobs

-- each route of three products is wire 2 alone, which product 3 closes, or wire 3 alone; but the plan of wire 3 is clean at no scheme of limit two
abbrev pub ClosingProductDoesNotCount : Type 0
ClosingProductDoesNotCount =
    ((r : List ℕ) → Route three_products.makings r → (r ≡ 2 ∷ []) ⊎ (r ≡ 3 ∷ []))
    × (IsProduct three_products.makings 3 × Operand three_products.makings 3 2)
    × ((t : Tables) → Grows t → IsClean three_products.makings (rules t 2 1) (3 ∷ []) → ⊥)
