-- The number of each refusal, and the first of several tests that is met.
use Rattle.std.specs.Prelude.{ℕ, Bool, cond, List, [], ◌∷◌, Some, None, Option}
use Rattle.circuits.specs.declared.answer.Refusal.{Refusal}
use Rattle.circuits.specs.declared.answer.Refusal.TheVariants as refusal

-- the number of a refusal
abbrev pub number_of : Refusal → ℕ
number_of refusal.TextTooLong = 1
number_of refusal.ByteNotAllowed = 2
number_of refusal.NotANumber = 3
number_of refusal.UnknownWord = 4
number_of refusal.CountOutOfBounds = 5
number_of refusal.CountsDoNotSuit = 6
number_of refusal.BadInput = 7
number_of refusal.BadResult = 8
number_of refusal.TokensLeftOver = 9
number_of refusal.WrongTotal = 10
number_of refusal.MemoryTooShort = 11
number_of refusal.BadRank = 12
number_of refusal.IndexTooHigh = 13
number_of refusal.BadWidth = 14
number_of refusal.AlreadyBarred = 15
number_of refusal.NotBarred = 16
number_of refusal.NotOpen = 17
number_of refusal.StillOpen = 18
number_of refusal.PlanBlocked = 19

-- of the tests of a call, in their order and each with the number that it refuses by, the number of the first that is met
abbrev pub first_fault : List (Bool × ℕ) → Option ℕ
first_fault [] = None
first_fault (f ∷ fs) = cond f.0 (Some f.1) (first_fault fs)
