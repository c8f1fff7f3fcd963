-- The levels of the wires of a circuit under a plan.
use Rattle.std.specs.Prelude.{◌≡◌, ℕ, ◌+◌, ◌<◌, ◌≤◌, Bool, true, false, cond, not, ◌&&◌, ◌||◌, ◌⊎◌, ◌↔◌, List, [], ◌∷◌, ◌++◌, length, drop, Some, None, Ok, Err, Option, Result, ◌==◌, nat_le, nat_lt, slice_index, slice_index_or}
use Rattle.std.specs.List.{slice_get}
use Rattle.circuits.specs.Answers.{number_of, first_fault}
use Rattle.circuits.specs.Circuits.{Meaning, Lawful, width}
use Rattle.circuits.specs.Growths.{Tables, Grows, Bounded, linear}
use Rattle.circuits.specs.declared.making.Making.{Making}
use Rattle.circuits.specs.declared.making.Making.TheVariants.{Input, Constant, Copy, Inversion, Sum, Product}
use Rattle.circuits.specs.declared.answer.Overrun.{Overrun}
use Rattle.circuits.specs.declared.answer.Refusal.{Refusal}
use Rattle.circuits.specs.declared.answer.Refusal.TheVariants.{MemoryTooShort, BadRank}

-- a scheme: its growth, its limit, and the level after a refresh
pub record Rules : Type 0 where
  pub growth : Tables
  pub limit : ℕ
  pub fresh : ℕ

abbrev pub rules : Tables → ℕ → ℕ → Rules
rules t l n = record { growth = t; limit = l; fresh = n }

-- the own level of a wire, from the outgoing levels of the wires before it
abbrev pub own : Tables → List ℕ → Making → ℕ
own t out Input = 1
own t out (Constant b) = 1
own t out (Copy a) = slice_index out a
own t out (Inversion a) = slice_index out a
own t out (Sum a b) = t.sum (slice_index out a) (slice_index out b)
own t out (Product a b) = t.product (slice_index out a) (slice_index out b)

abbrev pub has : ℕ → List ℕ → Bool
has k [] = false
has k (x ∷ xs) = x == k || has k xs

-- a wire in the plan goes out refreshed, any other at its own level
abbrev pub outgoing : Rules → List ℕ → ℕ → ℕ → ℕ
outgoing r plan k level = cond (has k plan) r.fresh level

pub record Outcome : Type 0 where
  pub answer : Option Overrun
  pub levels : List ℕ

-- the run over the wires that are left, after those whose outgoing levels are known
abbrev pub run_from : Rules → List ℕ → List ℕ → List Making → Outcome
run_from r plan out [] = record { answer = None; levels = out }
run_from r plan out (m ∷ ms) =
    cond (nat_lt r.limit (own r.growth out m))
    (record { answer = Some (record { rank = length out; level = own r.growth out m }); levels = out })
    (run_from r plan (out ++ (outgoing r plan (length out) (own r.growth out m) ∷ [])) ms)

-- neither an input nor a constant
abbrev pub produced : Making → Bool
produced Input = false
produced (Constant b) = false
produced (Copy a) = true
produced (Inversion a) = true
produced (Sum a b) = true
produced (Product a b) = true

abbrev pub produced_of : Option Making → Bool
produced_of None = false
produced_of (Some m) = produced m

abbrev pub produced_at : List Making → ℕ → Bool
produced_at ms k = produced_of (slice_get ms k)

-- strictly ascending ranks of produced wires, from low on
abbrev pub plan_fits : List Making → ℕ → List ℕ → Bool
plan_fits ms low [] = true
plan_fits ms low (x ∷ xs) = (nat_le low x && produced_at ms x) && plan_fits ms (x + 1) xs

-- out written over the front of the memory
abbrev pub over : List ℕ → List ℕ → List ℕ
over out memory = out ++ drop (length out) memory

-- the tests of a level run, in this order: 11 memory shorter than the circuit, 12 a rank that is not a produced wire's, or not ascending
abbrev pub faults : Meaning → List ℕ → List ℕ → List (Bool × ℕ)
faults m plan memory = (nat_lt (length memory) (width m), 11) ∷ (not (plan_fits m.makings 0 plan), 12) ∷ []

-- what a level run answers, and the memory that it leaves
pub record Ending : Type 0 where
  pub result : Result (Option Overrun) Refusal
  pub memory : List ℕ

abbrev pub level_run : Meaning → Rules → List ℕ → List ℕ → Ending
level_run m r plan memory =
    cond (nat_lt (length memory) (width m)) (record { result = Err MemoryTooShort; memory = memory })
    (cond (not (plan_fits m.makings 0 plan)) (record { result = Err BadRank; memory = memory })
    (record { result = Ok (run_from r plan [] m.makings).answer; memory = over (run_from r plan [] m.makings).levels memory }))

-- a plan is clean if no own level passes the limit
abbrev pub IsClean : List Making → Rules → List ℕ → Type 0
IsClean c r plan = (run_from r plan [] c).answer ≡ None

-- the own level of the wire at rank k, where the outgoing levels are out
abbrev pub own_at : Meaning → Rules → List ℕ → ℕ → ℕ
own_at m r out k = own r.growth out (slice_index_or m.makings k Input)

-- out has the outgoing levels of the first wires, and none of their own levels passes the limit
pub record Levelled (m : Meaning) (r : Rules) (plan out : List ℕ) : Type 0 where
  pub few : length out ≤ width m
  pub low : (k : ℕ) → k < length out → own_at m r out k ≤ r.limit
  pub goes : (k : ℕ) → k < length out → slice_index out k ≡ outgoing r plan k (own_at m r out k)

-- what an answer says of the levels that are written: all are; or the next wire is the one that is told, and its own level, told too, passes the limit
abbrev pub Told : Meaning → Rules → List ℕ → Option Overrun → Type 0
Told m r out None = length out ≡ width m
Told m r out (Some o) = (o.rank ≡ length out) × ((length out < width m) × ((o.level ≡ own_at m r out (length out)) × (r.limit < o.level)))

-- a level run from the memory `before`, by what it answers and the memory that it leaves
abbrev pub Ran : Meaning → Rules → List ℕ → List ℕ → Result (Option Overrun) Refusal → List ℕ → Type 0
Ran m r plan before (Ok a) after =
    (first_fault (faults m plan before) ≡ None)
    × ((out : List ℕ) × (Levelled m r plan out × (Told m r out a × (after ≡ over out before))))
Ran m r plan before (Err e) after = (first_fault (faults m plan before) ≡ Some (number_of e)) × (after ≡ before)

-- every wire has its own level within the limit
pub record Within (m : Meaning) (r : Rules) (plan : List ℕ) : Type 0 where
  pub out : List ℕ
  pub all : length out ≡ width m
  pub levelled : Levelled m r plan out

-- each produced wire is in the plan
abbrev pub AllRefreshed : Meaning → List ℕ → Type 0
AllRefreshed m plan = (k : ℕ) → produced_at m.makings k ≡ true → has k plan ≡ true

-- the level of a wire that is refreshed, or that needs no refresh
abbrev pub Fresh : Rules → ℕ → Type 0
Fresh r a = (a ≡ 1) ⊎ (a ≡ r.fresh)

-- the product of two such levels is within the limit
abbrev pub FreshProductsFit : Rules → Type 0
FreshProductsFit r = (a b : ℕ) → Fresh r a → Fresh r b → r.growth.product a b ≤ r.limit

-- laws of levels, for every circuit and every scheme
pub record LevelLaws : Type 0 where
  -- a plan is clean exactly when every own level is within the limit
  pub clean_is_within : (m : Meaning) → Lawful m → (r : Rules) (plan : List ℕ) → IsClean m.makings r plan ↔ Within m r plan
  -- the levels of a clean plan are one list only
  pub one_levelling : (m : Meaning) → Lawful m → (r : Rules) (plan : List ℕ) (a b : Within m r plan) → a.out ≡ b.out
  -- to refresh every produced wire is clean, where products of refreshed wires are within the limit
  pub all_refreshed_is_clean : (m : Meaning) → Lawful m → (t : Tables) (l n : ℕ) → Grows t → Bounded l n
      → FreshProductsFit (rules t l n) → (plan : List ℕ) → AllRefreshed m plan → IsClean m.makings (rules t l n) plan
  -- they are at every scheme of limit two, and at the linear one of limit 20
  pub fit_at_two : (t : Tables) → Grows t → (n : ℕ) → Bounded 2 n → FreshProductsFit (rules t 2 n)
  pub fit_at_twenty : FreshProductsFit (rules linear 20 9)
