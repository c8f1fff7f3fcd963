-- Laws of operands, products and wires that pass something on; and of being in a list.
use Rattle.std.proofs.Common.{◌≡◌, ℕ, ◌<◌, Bool, true, false, eqb, ◌⊎◌, List, [], ◌∷◌, length, sym, refl, ap, ◌∙◌, subst, inl, inr, ⊎_elim, arith}
use Rattle.std.proofs.lemmas.List.{get_or_past}
use Rattle.std.proofs.lemmas.Option.{slice_get_past, slice_get-get_or}
use Rattle.std.proofs.lemmas.Bool.{eqb-true, eq-eqb, true≢false, cases_lt, or_cases, or_left, or_right}
use Rattle.std.specs.List.{AllByRecursion}
use Rattle.circuits.specs.Circuits.{Feeds}
use Rattle.circuits.specs.Levels.{has, produced, produced_of, produced_at}
use Rattle.circuits.specs.declared.making.Making.{Making}
use Rattle.circuits.specs.declared.making.Making.TheVariants.{Input, Constant, Copy, Inversion, Sum, Product}
use Rattle.routes.specs.Routes.{at, Takes, Multiplies, PassesOn, Operand, IsProduct, Passes, Ordered, LawfulIsOrdered}

-- a fact that a making past the last can't have is one of a wire of the circuit
in_circuit : (c : List Making) (P : Making → Type 0) → (P Input → ⊥) → (w : ℕ) → P (at c w) → w < length c
in_circuit c P n w h = ⊎_elim (λ l. l) (λ l. absurd (n (subst P (get_or_past c w Input l) h))) (cases_lt w (length c))

pub product_in : (c : List Making) (w : ℕ) → IsProduct c w → w < length c
product_in c w f = in_circuit c Multiplies (λ a. a) w f

pub passes_in : (c : List Making) (w v : ℕ) → Passes c w v → w < length c
passes_in c w v f = in_circuit c (λ m. PassesOn m v) (λ a. a) w f

operand_in : (c : List Making) (w v : ℕ) → Operand c w v → w < length c
operand_in c w v f = in_circuit c (λ m. Takes m v) (λ a. a) w f

pub produced_in : (c : List Making) (w : ℕ) → produced (at c w) ≡ true → w < length c
produced_in c w f = in_circuit c (λ m. produced m ≡ true) (λ e. true≢false (sym e)) w f

taken_on : (m : Making) (v : ℕ) → PassesOn m v → Takes m v
taken_on Input v f = f
taken_on (Constant b) v f = f
taken_on (Copy a) v f = f
taken_on (Inversion a) v f = f
taken_on (Sum a b) v f = f
taken_on (Product a b) v f = absurd f

-- what is passed on is an operand
pub passes_operand : (c : List Making) (w v : ℕ) → Passes c w v → Operand c w v
passes_operand c w v f = taken_on (at c w) v f

fed_lower : (w v : ℕ) (m : Making) → Feeds w m → Takes m v → v < w
fed_lower w v Input f o = absurd o
fed_lower w v (Constant b) f o = absurd o
fed_lower w v (Copy a) f o = omega arith
fed_lower w v (Inversion a) f o = omega arith
fed_lower w v (Sum a b) f o = ⊎_elim (λ (e : v ≡ a). omega (arith, f.0)) (λ (e : v ≡ b). omega (arith, f.1)) o
fed_lower w v (Product a b) f o = ⊎_elim (λ (e : v ≡ a). omega (arith, f.0)) (λ (e : v ≡ b). omega (arith, f.1)) o

pub lawful_is_ordered : LawfulIsOrdered
lawful_is_ordered m laws = laws.fed

-- an operand has a lower rank
pub operand_lower : (c : List Making) → Ordered c → (w v : ℕ) → Operand c w v → v < w
operand_lower c ordered w v o = fed_lower w v (at c w) (ordered w (operand_in c w v o)) o

pub lower : (c : List Making) → Ordered c → (v w : ℕ) → Passes c w v → v < w
lower c ordered v w f = operand_lower c ordered w v (passes_operand c w v f)

passed_produced : (m : Making) (v : ℕ) → PassesOn m v → produced m ≡ true
passed_produced Input v f = absurd f
passed_produced (Constant b) v f = absurd f
passed_produced (Copy a) v f = refl
passed_produced (Inversion a) v f = refl
passed_produced (Sum a b) v f = refl
passed_produced (Product a b) v f = refl

multiplied_produced : (m : Making) → Multiplies m → produced m ≡ true
multiplied_produced Input f = absurd f
multiplied_produced (Constant b) f = absurd f
multiplied_produced (Copy a) f = refl
multiplied_produced (Inversion a) f = refl
multiplied_produced (Sum a b) f = refl
multiplied_produced (Product a b) f = refl

-- what passes something on, and what multiplies, is produced
pub passes_produced : (c : List Making) (w v : ℕ) → Passes c w v → produced (at c w) ≡ true
passes_produced c w v f = passed_produced (at c w) v f

pub product_produced : (c : List Making) (w : ℕ) → IsProduct c w → produced (at c w) ≡ true
product_produced c w f = multiplied_produced (at c w) f

-- the level run's test of a produced wire
pub produced_is : (c : List Making) (w : ℕ) → produced_at c w ≡ produced (at c w)
produced_is c w =
    ⊎_elim (λ l. ap produced_of (slice_get-get_or c w Input l)) (λ l. ap produced_of (slice_get_past c w l) ∙ sym (ap produced (get_or_past c w Input l))) (cases_lt w (length c))

pub not_both : {A : Type 0} {b : Bool} → b ≡ true → b ≡ false → A
not_both e f = absurd (true≢false (sym e ∙ f))

pub else_false : (b : Bool) → (b ≡ true → ⊥) → b ≡ false
else_false true h = absurd (h refl)
else_false false h = refl

-- the first of a list is in it, and what is in the rest
pub has_first : (x : ℕ) (xs : List ℕ) → has x (x ∷ xs) ≡ true
has_first x xs = or_left (eqb x x) (has x xs) (eq-eqb x x refl)

pub has_later : (w x : ℕ) (xs : List ℕ) → has w xs ≡ true → has w (x ∷ xs) ≡ true
has_later w x xs h = or_right (eqb x w) (has w xs) h

pub has_cases : (w x : ℕ) (xs : List ℕ) → has w (x ∷ xs) ≡ true → (w ≡ x) ⊎ (has w xs ≡ true)
has_cases w x xs h = ⊎_elim (λ e. inl (sym (eqb-true x w e))) inr (or_cases (eqb x w) (has w xs) h)

-- what holds of each number of a list holds of what is in it, and the other way round
pub all_has : (P : ℕ → Type 0) (xs : List ℕ) → AllByRecursion P xs → (w : ℕ) → has w xs ≡ true → P w
all_has P [] a w h = absurd (true≢false (sym h))
all_has P (x ∷ xs) a w h = ⊎_elim (λ e. subst P (sym e) a.0) (λ k. all_has P xs a.1 w k) (has_cases w x xs h)

pub has_all : {P : ℕ → Type 0} (xs : List ℕ) → ((w : ℕ) → has w xs ≡ true → P w) → AllByRecursion P xs
has_all [] h = tt
has_all (x ∷ xs) h = (h x (has_first x xs), has_all xs (λ w k. h w (has_later w x xs k)))

-- a decision as a test
pub is : {A : Type 0} → Dec A → Bool
is (yes a) = true
is (no f) = false

pub is_true : {A : Type 0} (d : Dec A) → A → is d ≡ true
unfolding is
is_true (yes a) b = refl
is_true (no f) b = absurd (f b)

pub from_is : {A : Type 0} (d : Dec A) → is d ≡ true → A
unfolding is
from_is (yes a) e = a
from_is (no f) e = absurd (true≢false (sym e))
