-- A call by its tests.
use Rattle.std.proofs.Common.{◌≡◌, ℕ, ◌+◌, ◌-◌, ◌≤◌, Bool, true, false, cond, List, ◌++◌, length, take, drop, Some, None, Err, Option, Result, sym, refl, ap, ◌∙◌, subst, arith, length-take}
use Rattle.std.proofs.lemmas.List.{take-append-drop, take-append-le, take_all}
use Rattle.circuits.specs.Answers.{number_of, first_fault}
use Rattle.circuits.specs.declared.answer.Refusal.{Refusal}
use Rattle.circuits.specs.declared.making.Making.{Making}
use Rattle.routes.specs.Flows.{value}
use Rattle.runs.specs.Events.{Event, room_of}
use Rattle.runs.specs.Law.{faults, Wrote}
use Rattle.runs.specs.Machine.{tells, Standing, Obeys, Did, Does}
use Rattle.runs.specs.declared.calls.Call.{Call}
use Rattle.runs.specs.declared.calls.Answer.{Answer}

pub met : (b : Bool) (n : ℕ) (o : Option ℕ) → b ≡ true → cond b (Some n) o ≡ Some n
met b n o e = ap (λ b. cond b (Some n) o) e

pub not_met : (b : Bool) (n : ℕ) (o p : Option ℕ) → b ≡ false → o ≡ p → cond b (Some n) o ≡ p
not_met b n o p e f = ap (λ b. cond b (Some n) o) e ∙ f

module _ (c : List Making) (s : Standing) (a : Call) (before : List ℕ) (lent : length before ≡ room_of a) where
  abbrev fault : Option ℕ
  fault = first_fault (faults c s.bars (tells s.stage) (value c s.flow) a)

  -- one that is refused leaves all as it was
  pub refuses : (r : Refusal) → fault ≡ Some (number_of r) → Does c s (record { call = a; before = before; answer = Err r; after = before }) s
  refuses r f =
      let e : Event = record { call = a; before = before; answer = Err r; after = before } in
      (lent, subst (λ o. Did o c s e s) (sym f) ((r, refl, refl, refl), refl))

  pub obeys : (b : Result Answer Refusal) (after : List ℕ) (t : Standing) → fault ≡ None → Obeys c s a before b after t → Does c s (record { call = a; before = before; answer = b; after = after }) t
  obeys b after t f h =
      let e : Event = record { call = a; before = before; answer = b; after = after } in
      (lent, subst (λ o. Did o c s e t) (sym f) h)

-- the front of the memory is written, and the rest stays
pub front_length : (k : ℕ) (out : List ℕ) → k ≤ length out → length (take k out) ≡ k
front_length k out h = simp length-take (omega arith)

pub wrote_front : (k : ℕ) (before after : List ℕ) → k ≤ length after → length after ≡ length before → drop k after ≡ drop k before → Wrote (take k after) before after
wrote_front k before after h same rest =
    (omega (arith, front_length k after h), sym (take-append-drop k after) ∙ ap (λ xs. take k after ++ xs) rest ∙ ap (λ i. take k after ++ drop i before) (sym (front_length k after h)))

-- what was copied to the front
pub copied_front : (h from : ℕ) (xs more src : List ℕ) → xs ≡ take ((from + h) - from) src → h ≤ length src → take h (xs ++ more) ≡ take h src
copied_front h from xs more src e l =
    let k : (from + h) - from ≡ h = omega arith in
    let same : xs ≡ take h src = e ∙ ap (λ i. take i src) k in
    take-append-le h xs more (omega (arith, ap length same, front_length h src l)) ∙ ap (take h) same ∙ take_all h (take h src) (omega (arith, front_length h src l))
