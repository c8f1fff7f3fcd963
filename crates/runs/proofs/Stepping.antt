-- Steps one after another.
use Rattle.std.proofs.Common.{◌≡◌, ℕ, ◌+◌, ◌≤◌, List, [], ◌∷◌, ◌++◌, replicate, Some, None, Ok, Result, ◌≢◌, sym, refl, ◌∙◌, subst, add-one, arith}
use Rattle.circuits.specs.declared.answer.Refusal.{Refusal}
use Rattle.circuits.specs.declared.making.Making.{Making}
use Rattle.runs.specs.Events.{History}
use Rattle.runs.specs.Told.{Told, DoesTold, then_told}
use Rattle.runs.specs.Calls.{Called, Came, answered_by}
use Rattle.runs.specs.Steps.{a_step, SteppedOn}
use Rattle.runs.specs.declared.calls.Stepped.{Stepped}
use Rattle.runs.specs.declared.calls.Call.TheVariants as call
use Rattle.runs.specs.declared.calls.Answer.TheVariants as answer
use Rattle.runs.specs.declared.calls.Stepped.TheVariants as stepped

module _ {P : Type 0} (circuit : P → List Making) (shows : P → Told → Type 0) where
  -- k steps have grown on p, and left q
  pub record Growing (p : P) (k : ℕ) (q : P) : Type 0 where
    pub same : circuit q ≡ circuit p
    pub came : (h : History) → Came (circuit p) (shows p) h → Came (circuit p) (shows q) (replicate k (a_step (Ok stepped.Grown)) ++ h)

  pub none_yet : (p : P) → Growing p 0 p
  none_yet p = record { same = refl; came = λ h from. from }

  module _ (p : P) (k : ℕ) (q : P) (grew : Growing p k q) (a : Result Stepped Refusal) (u : P)
      (step : Called circuit shows q call.Step [] (answered_by answer.Stepped a) [] u) where
    -- the next step, whatever it answers
    next : (h : History) → Came (circuit p) (shows p) h → Came (circuit p) (shows u) (a_step a ∷ (replicate k (a_step (Ok stepped.Grown)) ++ h))
    next h from =
        let was : Came (circuit p) (shows q) (replicate k (a_step (Ok stepped.Grown)) ++ h) = grew.came h from in
        let done : (t : Told) × DoesTold (circuit q) was.0 (a_step a) t × shows u t = step.1 was.0 was.1 in
        (done.0, done.2, then_told was.2 (subst (λ w. DoesTold w was.0 (a_step a) done.0) grew.same done.1))

    now_same : circuit u ≡ circuit p
    now_same = step.0 ∙ grew.same

    pub one_more : a ≡ Ok stepped.Grown → Growing p (k + 1) u
    one_more g =
        record {
          same = now_same;
          came = λ h from. subst (λ n. Came (circuit p) (shows u) (replicate n (a_step (Ok stepped.Grown)) ++ h)) (sym (add-one k))
              (subst (λ b. Came (circuit p) (shows u) (a_step b ∷ (replicate k (a_step (Ok stepped.Grown)) ++ h))) g (next h from));
        }

    pub ends : (most : ℕ) → k ≤ most → a ≢ Ok stepped.Grown → SteppedOn circuit shows p most (record { grown = k; last = Some a }) u
    ends most l no_more = record { same = now_same; within = l; ended = no_more; came = next }

  pub all_grown : (p : P) (most : ℕ) (q : P) → Growing p most q → SteppedOn circuit shows p most (record { grown = most; last = None }) q
  all_grown p most q g = record { same = g.same; within = omega arith; ended = refl; came = g.came }
