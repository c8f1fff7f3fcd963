-- Plans that fit, the cheapest of them and the earliest of those.
use Rattle.std.specs.Prelude.{◌≡◌, ℕ, ◌≤◌, true, false, not, ◌⊎◌, ◌↔◌, List, length}
use Rattle.std.specs.List.{AllByRecursion}
use Rattle.circuits.specs.Growths.{Tables, Grows, Bounded}
use Rattle.circuits.specs.Levels.{rules, has, plan_fits, IsClean}
use Rattle.circuits.specs.declared.making.Making.{Making}
use Rattle.routes.specs.Routes.{Ordered, Wires, Ends, Route, Hits, Ahead}
use Rattle.routes.specs.Sums.{sum_of}

-- the wires of a list
abbrev pub wires_of : List ℕ → Wires
wires_of plan w = has w plan

-- clean at every scheme of limit two, where a refresh leaves level 1, the only one below the limit
abbrev pub CleanAtTwo : List Making → List ℕ → Type 0
CleanAtTwo c plan = (t : Tables) → Grows t → IsClean c (rules t 2 1) plan

-- no wire of the set is barred
abbrev pub FreeOf : Wires → Wires → Type 0
FreeOf barred p = (w : ℕ) → p w ≡ true → barred w ≡ false

-- ascending ranks of produced wires, clean at every scheme of limit two, none of them barred
pub record Fits (c : List Making) (barred : Wires) (plan : List ℕ) : Type 0 where
  pub planned : plan_fits c 0 plan ≡ true
  pub clean : CleanAtTwo c plan
  pub free : FreeOf barred (wires_of plan)

-- what the wires of a plan cost together
abbrev pub cost : (ℕ → ℕ) → List ℕ → ℕ
cost price plan = sum_of price plan

-- a plan that fits, and than which none that fits costs less
pub record Cheapest (c : List Making) (barred : Wires) (price : ℕ → ℕ) (plan : List ℕ) : Type 0 where
  pub fits : Fits c barred plan
  pub least : (q : List ℕ) → Fits c barred q → cost price plan ≤ cost price q

-- a cheapest plan, each wire ahead of which is ahead of every cheapest plan
pub record Earliest (c : List Making) (barred : Wires) (price : ℕ → ℕ) (plan : List ℕ) : Type 0 where
  pub cheapest : Cheapest c barred price plan
  pub first : (q : List ℕ) → Cheapest c barred price q → (w : ℕ) → Ahead c (wires_of plan) w → Ahead c (wires_of q) w

-- every wire has the price 1
abbrev pub ones : ℕ → ℕ
ones w = 1

-- a plan that fits, and than which none that fits has fewer wires
abbrev pub Smallest : List Making → Wires → List ℕ → Type 0
Smallest c barred plan = Cheapest c barred ones plan

-- the earliest of those
abbrev pub EarliestSmallest : List Making → Wires → List ℕ → Type 0
EarliestSmallest c barred plan = Earliest c barred ones plan

-- some route has only barred wires
abbrev pub Blocked : List Making → Wires → Type 0
Blocked c barred = (r : List ℕ) × Route c r × AllByRecursion (λ w. barred w ≡ true) r

-- at limit two a refresh leaves level 1
abbrev pub FreshLevelIsOne : Type 0
FreshLevelIsOne = (n : ℕ) → Bounded 2 n → n ≡ 1

-- at limit two a plan is clean exactly when it has a wire of every route
abbrev pub CleanIsEveryRouteHit : Type 0
CleanIsEveryRouteHit =
    (t : Tables) → Grows t → (c : List Making) → Ordered c → (plan : List ℕ)
    → IsClean c (rules t 2 1) plan ↔ ((r : List ℕ) → Route c r → Hits (wires_of plan) r)

-- so what is clean at one scheme of limit two is clean at every other
abbrev pub CleanAtOneIsCleanAtAll : Type 0
CleanAtOneIsCleanAtAll =
    (t : Tables) → Grows t → (c : List Making) → Ordered c → (plan : List ℕ) → IsClean c (rules t 2 1) plan → CleanAtTwo c plan

-- unless some route has only barred wires there is an earliest plan
abbrev pub EarliestExistsUnlessBlocked : Type 0
EarliestExistsUnlessBlocked =
    (c : List Making) → Ordered c → (barred : Wires) (price : ℕ → ℕ)
    → Blocked c barred ⊎ ((plan : List ℕ) × Earliest c barred price plan)

-- where every wire has a price there is no more than one
abbrev pub EarliestIsOne : Type 0
EarliestIsOne =
    (c : List Making) → Ordered c → (barred : Wires) (price : ℕ → ℕ) → ((w : ℕ) → 1 ≤ price w)
    → (p q : List ℕ) → Earliest c barred price p → Earliest c barred price q → p ≡ q

-- unless some route has only barred wires there is exactly one earliest smallest plan
abbrev pub OneEarliestUnlessBlocked : Type 0
OneEarliestUnlessBlocked =
    (c : List Making) → Ordered c → (barred : Wires)
    → Blocked c barred
    ⊎ ((plan : List ℕ) × EarliestSmallest c barred plan × ((q : List ℕ) → EarliestSmallest c barred q → q ≡ plan))

-- if some route has only barred wires no plan fits
abbrev pub BlockedHasNoPlan : Type 0
BlockedHasNoPlan =
    (c : List Making) → Ordered c → (barred : Wires) → Blocked c barred → (plan : List ℕ) → Fits c barred plan → ⊥

-- blocked just where some row of barred wires leads to a wire at which a route may end
abbrev pub BlockedIsBarredRow : Type 0
BlockedIsBarredRow =
    (c : List Making) (barred : Wires) → Blocked c barred ↔ ((w : ℕ) × Ends c w × Ahead c (λ v. not (barred v)) w)

-- the smallest plans are those that fit and have fewest wires
abbrev pub SmallestIsFewest : Type 0
SmallestIsFewest =
    (c : List Making) (barred : Wires) (plan : List ℕ)
    → Smallest c barred plan ↔ (Fits c barred plan × ((q : List ℕ) → Fits c barred q → length plan ≤ length q))
