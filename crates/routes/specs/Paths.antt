-- One unit more, along a path of steps.
use Rattle.std.specs.Prelude.{◌≡◌, ℕ, ◌+◌, ◌-◌, ◌<◌, ◌≤◌, false, ◌&&◌, List, [], ◌∷◌, ◌==◌, ◌≢◌}
use Rattle.std.specs.List.{AllByRecursion}
use Rattle.circuits.specs.declared.making.Making.{Making}
use Rattle.routes.specs.Routes.{IsProduct, Passes, Ordered, Wires, Ends}
use Rattle.routes.specs.Sums.{one_if}
use Rattle.routes.specs.Flows.{over, value, Flow, IsFlow}
use Rattle.routes.specs.Residuals.{Place, Step, entry, exit, pass_one, unpass_one, send_on, take_back}

-- one more, and one less, at w
abbrev pub more_at : ℕ → (ℕ → ℕ) → ℕ → ℕ
more_at w f u = f u + one_if (u == w)

abbrev pub less_at : ℕ → (ℕ → ℕ) → ℕ → ℕ
less_at w f u = f u - one_if (u == w)

-- one more, and one less, from v to w
abbrev pub more_along : ℕ → ℕ → (ℕ → ℕ → ℕ) → ℕ → ℕ → ℕ
more_along v w f a b = f a b + one_if (a == v && b == w)

abbrev pub less_along : ℕ → ℕ → (ℕ → ℕ → ℕ) → ℕ → ℕ → ℕ
less_along v w f a b = f a b - one_if (a == v && b == w)

-- what a step changes
abbrev pub stepped : {c : List Making} {barred : Wires} {price : ℕ → ℕ} {x : Flow} {a b : Place} → Step c barred price x a b → Flow → Flow
stepped (pass_one {w = w} s) y = record { start = y.start; along = y.along; finish = y.finish; through = more_at w y.through }
stepped (unpass_one {w = w} s) y = record { start = y.start; along = y.along; finish = y.finish; through = less_at w y.through }
stepped (send_on {v = v} {w = w} s) y = record { start = y.start; along = more_along v w y.along; finish = y.finish; through = y.through }
stepped (take_back {v = v} {w = w} s) y = record { start = y.start; along = less_along v w y.along; finish = y.finish; through = y.through }

-- steps to a place, the last first, from the entry of a product, with no place twice
pub data Trail (c : List Making) (barred : Wires) (price : ℕ → ℕ) (x : Flow) : Place → List Place → Type 0 where
  begun : {w : ℕ} → IsProduct c w → Trail c barred price x (entry w) []
  after : {a b : Place} {ps : List Place} → Trail c barred price x a ps → Step c barred price x a b → AllByRecursion (λ p. p ≢ b) (a ∷ ps)
      → Trail c barred price x b (a ∷ ps)

-- the flow with one unit more along the trail
abbrev pub sent : {c : List Making} {barred : Wires} {price : ℕ → ℕ} {x : Flow} {b : Place} {ps : List Place} → Trail c barred price x b ps → Flow → Flow
sent (begun {w = w} f) y = record { start = more_at w y.start; along = y.along; finish = y.finish; through = y.through }
sent (after t s n) y = sent t (stepped s y)

-- one unit more that ends at w
abbrev pub ended_at : ℕ → Flow → Flow
ended_at w y = record { start = y.start; along = y.along; finish = more_at w y.finish; through = y.through }

-- 1 at the wire whose entry, or exit, the place is
abbrev pub at_entry : Place → ℕ → ℕ
at_entry (entry w) u = one_if (u == w)
at_entry (exit w) u = 0

abbrev pub at_exit : Place → ℕ → ℕ
at_exit (entry w) u = 0
at_exit (exit w) u = one_if (u == w)

-- a flow but for one unit, which is lacking at a place
pub record Lacks (c : List Making) (barred : Wires) (price : ℕ → ℕ) (x : Flow) (p : Place) : Type 0 where
  pub from_products : (w : ℕ) → 0 < x.start w → IsProduct c w
  pub passed_on : (v w : ℕ) → 0 < x.along v w → Passes c w v
  pub to_products : (w : ℕ) → 0 < x.finish w → Ends c w
  pub enters : (w : ℕ) → x.start w + over c (λ v. x.along v w) + at_entry p w ≡ x.through w
  pub leaves : (v : ℕ) → over c (λ w. x.along v w) + x.finish v ≡ x.through v + at_exit p v
  pub fits : (w : ℕ) → barred w ≡ false → x.through w ≤ price w

-- one unit more along a trail to a goal leaves a flow, of one unit more
abbrev pub TrailsAddOne : Type 0
TrailsAddOne =
    (c : List Making) → Ordered c → (barred : Wires) (price : ℕ → ℕ) (x : Flow) → IsFlow c barred price x
    → (w : ℕ) (ps : List Place) (t : Trail c barred price x (exit w) ps) → Ends c w
    → IsFlow c barred price (sent t (ended_at w x)) × (value c (sent t (ended_at w x)) ≡ value c x + 1)
