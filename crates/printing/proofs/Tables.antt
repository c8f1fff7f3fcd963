-- The plan of the circuit in a table, and what is written of it.
use Rattle.std.proofs.Common.{◌≡◌, ℕ, ◌≤◌, Bool, true, false, ◌||◌, ltb, List, length, take, drop, Ok, Err, Result, sym, refl, ap, ◌∙◌, subst, arith}
use Rattle.std.proofs.lemmas.List.{length-map, take_at}
use Rattle.std.proofs.lemmas.Bool.{true≢false, le-ltb}
use Rattle.circuits.specs.Tables.{makings_of, tabled, table_fits}
use Rattle.circuits.specs.TableLaws.{table_lawful}
use Rattle.circuits.specs.declared.answer.Refusal.{Refusal}
use Rattle.circuits.specs.declared.answer.Refusal.TheVariants.{MemoryTooShort}
use Rattle.circuits.specs.declared.making.Entry.{Entry}
use Rattle.routes.proofs.Wires.{lawful_is_ordered}
use Rattle.runs.specs.Calls.{refused_by}
use Rattle.plannings.specs.Running.{WritesFront, PlansFree}
use Rattle.plannings.proofs.Planned.{the_plan, plan_short}
use Rattle.printing.specs.Lines.{plan_text, names_at}
use Rattle.printing.specs.Printed.{ThePlan, with_plan}

-- no plan where the memory is too short for the planning
pub plans_short : (es : List Entry) (rs : List ℕ) (i o : ℕ) → table_fits es rs i o ≡ true → (b : Bool) → b ≡ true → (before : List ℕ)
    → PlansFree (makings_of es) b before (Err MemoryTooShort) before
plans_short es rs i o fits true e before =
    let plan = the_plan (makings_of es) (lawful_is_ordered (tabled es i o) (table_lawful es rs i o fits)) in
    (plan.0, plan.1, (refl, refl))
plans_short es rs i o fits false e before = absurd (true≢false (sym e))

-- a plan has a rank for each wire at the most
plan_few : (es : List Entry) (plan : List ℕ) → ThePlan es plan → length plan ≤ length es
plan_few es plan p = omega (arith, plan_short (makings_of es) 0 plan p.cheapest.fits.planned (omega arith), length-map es (λ e. e.making))

-- ranks that hold a table have room for its plan
module _ (es : List Entry) (before : List ℕ) (r : Result ℕ Refusal) (after : List ℕ) (long : length es ≤ length before) where
  roomy : (b : Bool) (plan : List ℕ) → ThePlan es plan → WritesFront (b || ltb (length before) (length plan)) plan before r after → WritesFront b plan before r after
  roomy true plan p w = w
  roomy false plan p w =
      subst (λ t. WritesFront t plan before r after) (le-ltb (length before) (length plan) (omega (arith, plan_few es plan p, long))) w

-- what was planned, and what is written of it
pub record Wrote (es : List Entry) (b : Bool) (before after out : List ℕ) (r : Result ℕ Refusal) (out' : List ℕ) : Type 0 where
  pub plan : List ℕ
  pub earliest : ThePlan es plan
  pub ranks : after ≡ with_plan b plan before
  pub writes : WritesFront (b || ltb (length out) (length (plan_text (names_at es plan)))) (plan_text (names_at es plan)) out r out'

module _ (es : List Entry) (b : Bool) (before : List ℕ) (r : Result ℕ Refusal) (after : List ℕ) (long : length es ≤ length before) (p : PlansFree (makings_of es) b before r after) where
  pub plan_refused : (x : Refusal) → Err x ≡ r → (r' : Result ℕ Refusal) → r' ≡ Err x → (out : List ℕ) → Wrote es b before after out r' out
  plan_refused x e r' e' out = go b (roomy es before r after long b p.0 p.1 p.2)
    where
      go : (b : Bool) → WritesFront b p.0 before r after → Wrote es b before after out r' out
      go true w = record { plan = p.0; earliest = p.1; ranks = w.1; writes = (ap refused_by (e' ∙ e) ∙ w.0, refl) }
      go false w = let no = e ∙ w.0 in let z : ◌≡◌ {A = ℕ} 0 1 = cc in absurd (omega arith)

  pub plan_written : (k : ℕ) → Ok k ≡ r → (xs : List ℕ) → xs ≡ take k after → (out : List ℕ) (r' : Result ℕ Refusal) (out' : List ℕ)
      → WritesFront (ltb (length out) (length (plan_text (names_at es xs)))) (plan_text (names_at es xs)) out r' out' → Wrote es b before after out r' out'
  plan_written k e xs f out r' out' v = go b (roomy es before r after long b p.0 p.1 p.2)
    where
      go : (b : Bool) → WritesFront b p.0 before r after → Wrote es b before after out r' out'
      go true w = let no = ap refused_by e ∙ w.0 in let z : ◌≡◌ {A = ℕ} 0 1 = cc in absurd (omega arith)
      go false w =
          let is = e ∙ w.0 in
          let same : k ≡ length p.0 = cc in
          let front : xs ≡ p.0 = f ∙ ap (take k) w.1 ∙ take_at p.0 (drop (length p.0) before) k (sym same) in
          record { plan = p.0; earliest = p.1; ranks = w.1; writes = subst (λ l. WritesFront (ltb (length out) (length (plan_text (names_at es l)))) (plan_text (names_at es l)) out r' out') front v }
