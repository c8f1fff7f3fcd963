-- Steps one after another, until one does not grow.
use Rattle.std.specs.Prelude.{◌≡◌, ℕ, ◌≤◌, List, [], ◌∷◌, ◌++◌, replicate, Some, None, Ok, Option, Result, ◌≢◌}
use Rattle.circuits.specs.declared.answer.Refusal.{Refusal}
use Rattle.circuits.specs.declared.making.Making.{Making}
use Rattle.runs.specs.Events.{Event, History}
use Rattle.runs.specs.Told.{Told}
use Rattle.runs.specs.Calls.{answered_by, Came}
use Rattle.runs.specs.declared.calls.Stepped.{Stepped}
use Rattle.runs.specs.declared.steps.Steps.{Steps}
use Rattle.runs.specs.declared.calls.Call.TheVariants as call
use Rattle.runs.specs.declared.calls.Answer.TheVariants as answer
use Rattle.runs.specs.declared.calls.Stepped.TheVariants as stepped

-- a step with its answer
abbrev pub a_step : Result Stepped Refusal → Event
a_step a = record { call = call.Step; before = []; answer = answered_by answer.Stepped a; after = [] }

-- the step that did not grow, if there was one
abbrev pub last_step : Option (Result Stepped Refusal) → History
last_step None = []
last_step (Some a) = a_step a ∷ []

-- the history of the steps, the newest first
abbrev pub steps_made : Steps → History
steps_made r = last_step r.last ++ replicate r.grown (a_step (Ok stepped.Grown))

-- with no last step all of them grew, and one that is last did not
abbrev pub Ended : ℕ → Steps → Option (Result Stepped Refusal) → Type 0
Ended most r None = r.grown ≡ most
Ended most r (Some a) = a ≢ Ok stepped.Grown

-- at most so many steps were made on a planning p, and left q
pub record SteppedOn {P : Type 0} (circuit : P → List Making) (shows : P → Told → Type 0) (p : P) (most : ℕ) (r : Steps) (q : P) : Type 0 where
  pub same : circuit q ≡ circuit p
  pub within : r.grown ≤ most
  pub ended : Ended most r r.last
  pub came : (h : History) → Came (circuit p) (shows p) h → Came (circuit p) (shows q) (steps_made r ++ h)
