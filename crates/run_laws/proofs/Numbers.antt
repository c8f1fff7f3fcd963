-- Refusals by their numbers.
use Rattle.std.proofs.Common.{◌≡◌, ℕ, ◌-◌, Bool, true, false, cond, List, [], ◌∷◌, get_or, Some, sym, refl, ap, ◌∙◌, subst}
use Rattle.std.specs.List.{AllByRecursion}
use Rattle.std.proofs.lemmas.Option.{none-some}
use Rattle.circuits.specs.Answers.{number_of, first_fault}
use Rattle.circuits.specs.declared.answer.Refusal.{Refusal}
use Rattle.circuits.specs.declared.answer.Refusal.TheVariants as refusal
use Rattle.circuits.specs.declared.making.Making.{Making}
use Rattle.routes.specs.Routes.{Wires}
use Rattle.runs.specs.Law.{faults}
use Rattle.runs.specs.declared.calls.Call.{Call}
use Rattle.runs.specs.declared.calls.State.{State}
use Rattle.runs.specs.declared.calls.Call.TheVariants as call

-- the refusal of a number
abbrev pub refusal_numbered : ℕ → Refusal
refusal_numbered n = get_or (refusal.TextTooLong ∷ refusal.ByteNotAllowed ∷ refusal.NotANumber ∷ refusal.UnknownWord ∷ refusal.CountOutOfBounds ∷ refusal.CountsDoNotSuit ∷ refusal.BadInput ∷ refusal.BadResult ∷ refusal.TokensLeftOver ∷ refusal.WrongTotal ∷ refusal.MemoryTooShort ∷ refusal.BadRank ∷ refusal.IndexTooHigh ∷ refusal.BadWidth ∷ refusal.AlreadyBarred ∷ refusal.NotBarred ∷ refusal.NotOpen ∷ refusal.StillOpen ∷ refusal.PlanBlocked ∷ []) (n - 1) refusal.TextTooLong

-- a number has one refusal
numbered_again : (r : Refusal) → refusal_numbered (number_of r) ≡ r
numbered_again refusal.TextTooLong = refl
numbered_again refusal.ByteNotAllowed = refl
numbered_again refusal.NotANumber = refl
numbered_again refusal.UnknownWord = refl
numbered_again refusal.CountOutOfBounds = refl
numbered_again refusal.CountsDoNotSuit = refl
numbered_again refusal.BadInput = refl
numbered_again refusal.BadResult = refl
numbered_again refusal.TokensLeftOver = refl
numbered_again refusal.WrongTotal = refl
numbered_again refusal.MemoryTooShort = refl
numbered_again refusal.BadRank = refl
numbered_again refusal.IndexTooHigh = refl
numbered_again refusal.BadWidth = refl
numbered_again refusal.AlreadyBarred = refl
numbered_again refusal.NotBarred = refl
numbered_again refusal.NotOpen = refl
numbered_again refusal.StillOpen = refl
numbered_again refusal.PlanBlocked = refl

pub one_refusal : (r s : Refusal) → number_of r ≡ number_of s → r ≡ s
one_refusal r s e = sym (numbered_again r) ∙ ap refusal_numbered e ∙ numbered_again s

-- tests whose numbers are those of refusals
abbrev Numbered : List (Bool × ℕ) → Type 0
Numbered fs = AllByRecursion (λ f. number_of (refusal_numbered f.1) ≡ f.1) fs

first_numbered : (fs : List (Bool × ℕ)) → Numbered fs → (n : ℕ) → first_fault fs ≡ Some n → number_of (refusal_numbered n) ≡ n
first_numbered [] a n e = absurd (none-some n e)
first_numbered (f ∷ fs) a n e = go f.0 (first_numbered fs a.1 n) e
  where
    same : (m : ℕ) → Some m ≡ Some n → m ≡ n
    same m e = cc

    go : (b : Bool) → (first_fault fs ≡ Some n → number_of (refusal_numbered n) ≡ n) → cond b (Some f.1) (first_fault fs) ≡ Some n
        → number_of (refusal_numbered n) ≡ n
    go true more e = subst (λ m. number_of (refusal_numbered m) ≡ m) (same f.1 e) a.0
    go false more e = more e

pub fault_numbered : (c : List Making) (bars : Wires) (s : State) (k : ℕ) (a : Call) (n : ℕ) → first_fault (faults c bars s k a) ≡ Some n
    → number_of (refusal_numbered n) ≡ n
fault_numbered c bars s k a n e = first_numbered (faults c bars s k a) (numbered a) n e
  where
    numbered : (a : Call) → Numbered (faults c bars s k a)
    numbered (call.Bar w) = (refl, (refl, tt))
    numbered (call.Unbar w) = (refl, (refl, tt))
    numbered call.Step = (refl, tt)
    numbered (call.Plan n) = (refl, (refl, (refl, tt)))
    numbered (call.Route i n) = (refl, (refl, (refl, tt)))
