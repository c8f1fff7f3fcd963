-- Steps to the end of a new planning, and its plan.
use Rattle.std.proofs.Common.{◌≡◌, ℕ, zero, suc, ◌+◌, ◌≤◌, Bool, true, false, cond, ◌&&◌, ltb, leb, List, [], ◌∷◌, ◌++◌, length, drop, replicate, Some, None, Ok, Err, Option, Result, sym, refl, ap, ◌∙◌, subst, ⊎_elim, append-nil, add-one, arith}
use Rattle.std.specs.List.{AllByRecursion}
use Rattle.std.proofs.lemmas.Bool.{true≢false, and_parts, leb-true}
use Rattle.circuits.specs.Answers.{number_of, first_fault}
use Rattle.circuits.specs.Levels.{produced_at, plan_fits}
use Rattle.circuits.specs.declared.answer.Refusal.{Refusal}
use Rattle.circuits.specs.declared.answer.Refusal.TheVariants.{MemoryTooShort}
use Rattle.circuits.specs.declared.making.Making.{Making}
use Rattle.circuits.proofs.Plans.{produced_below}
use Rattle.routes.specs.Routes.{Ordered, Route}
use Rattle.routes.specs.Plans.{EarliestSmallest, Blocked}
use Rattle.routes.proofs.Existence.{one_earliest_unless_blocked}
use Rattle.runs.specs.Events.{Event, History}
use Rattle.runs.specs.Law.{faults}
use Rattle.runs.specs.Told.{Told, counted, opened, StandApart, StepTold, ObeysTold, DidTold, DoesTold, RunTold, new_told, then_told}
use Rattle.runs.specs.Calls.{Came, refused_by, answered_by}
use Rattle.runs.specs.Steps.{a_step, last_step, Ended, steps_made}
use Rattle.runs.specs.declared.calls.Answer.{Answer}
use Rattle.runs.specs.declared.calls.Stepped.{Stepped}
use Rattle.runs.specs.declared.steps.Steps.{Steps}
use Rattle.runs.specs.declared.calls.Call.TheVariants as call
use Rattle.runs.specs.declared.calls.Answer.TheVariants as answer
use Rattle.runs.specs.declared.calls.Stepped.TheVariants as stepped
use Rattle.runs.specs.declared.calls.State.TheVariants as state
use Rattle.runs.proofs.Told.{bound, reach}
use Rattle.plannings.specs.Running.{WritesFront, PlansFree}

-- a plan has no more wires than the circuit
pub plan_short : (c : List Making) (low : ℕ) (xs : List ℕ) → plan_fits c low xs ≡ true → low ≤ length c → low + length xs ≤ length c
plan_short c low [] e l = omega arith
plan_short c low (x ∷ xs) e l =
    let p = and_parts (leb low x && produced_at c x) (plan_fits c (x + 1) xs) e in
    let q = and_parts (leb low x) (produced_at c x) p.0 in
    omega (arith, leb-true low x q.0, plan_short c (x + 1) xs p.1 (omega (arith, produced_below c x q.1)))

-- with nothing barred no route has only barred wires
not_blocked : (c : List Making) → Blocked c (λ w. false) → ⊥
not_blocked c b = inside b.0 b.1 b.2
  where
    inside : (r : List ℕ) → Route c r → AllByRecursion (λ w. false ≡ true) r → ⊥
    inside [] f a = f
    inside (w ∷ ws) f a = true≢false (sym a.0)

module _ (c : List Making) (ordered : Ordered c) where
  -- the earliest smallest plan
  pub the_plan : (plan : List ℕ) × EarliestSmallest c (λ w. false) plan × ((q : List ℕ) → EarliestSmallest c (λ w. false) q → q ≡ plan)
  the_plan = ⊎_elim (λ b. absurd (not_blocked c b)) (λ e. e) (one_earliest_unless_blocked c ordered (λ w. false))

  -- open after k steps that grew
  record Grew (k : ℕ) (t : Told) : Type 0 where
    open_now : t.state ≡ state.Open
    no_bars : t.bars ≡ (λ w. false)
    many : length t.routes ≡ k
    apart : StandApart c t.bars t.routes

  -- closed, with no more routes to be had
  pub record Closes (t : Told) : Type 0 where
    pub closed_now : t.state ≡ state.Closed
    pub no_bars : t.bars ≡ (λ w. false)
    pub many : length t.routes ≡ length the_plan.0

  -- a step of an open planning is obeyed
  open_step : (s : Told) → s.state ≡ state.Open → (a : Result Stepped Refusal) (t : Told) → DoesTold c s (a_step a) t
      → (g : Stepped) × (answered_by answer.Stepped a ≡ Ok (answer.Stepped g)) × StepTold c s g t
  open_step s o a t d =
      let e : ObeysTold c s call.Step [] (answered_by answer.Stepped a) [] t =
      subst (λ z. DidTold (first_fault (faults c s.bars z (counted s.state s.routes) call.Step)) c s (a_step a) t) o d.1 in
      (e.0, e.1, e.2)

  stepped_so : (s : Told) → s.state ≡ state.Open → (g : Stepped) (t : Told) → DoesTold c s (a_step (Ok g)) t → StepTold c s g t
  stepped_so s o g t d =
      let e : (x : Stepped) × (◌≡◌ {A = Result Answer Refusal} (Ok (answer.Stepped g)) (Ok (answer.Stepped x))) × StepTold c s x t = open_step s o (Ok g) t d in
      subst (λ x. StepTold c s x t) (sym (same_step g e.0 e.1)) e.2
    where
      same_step : (g x : Stepped) → ◌≡◌ {A = Result Answer Refusal} (Ok (answer.Stepped g)) (Ok (answer.Stepped x)) → g ≡ x
      same_step g x e = cc

  not_refused : (s : Told) → s.state ≡ state.Open → (x : Refusal) (t : Told) → DoesTold c s (a_step (Err x)) t → ⊥
  not_refused s o x t d = differ x (open_step s o (Err x) t d).0 (open_step s o (Err x) t d).1
    where
      differ : (x : Refusal) (g : Stepped) → ◌≡◌ {A = Result Answer Refusal} (Err x) (Ok (answer.Stepped g)) → ⊥
      differ x g e = let z : ◌≡◌ {A = ℕ} 0 1 = cc in omega arith

  grew : (k : ℕ) (t : Told) → RunTold c (replicate k (a_step (Ok stepped.Grown))) t → Grew k t
  grew zero t new_told = record { open_now = refl; no_bars = refl; many = refl; apart = (tt, tt) }
  grew (suc k) t (then_told {s = s} r d) =
      let g : Grew k s = grew k s r in
      let e = stepped_so s g.open_now stepped.Grown t d in
      let now_is = e.1.3 in
      record {
        open_now = ap (λ t. t.state) now_is;
        no_bars = ap (λ t. t.bars) now_is ∙ g.no_bars;
        many = ap (λ t. length t.routes) now_is ∙ e.1.2 ∙ ap (λ n. n + 1) g.many ∙ add-one k;
        apart = subst (λ t. StandApart c t.bars t.routes) (sym now_is) e.1.1;
      }

  -- no more than the plan has wires
  few : (k : ℕ) (t : Told) → Grew k t → k ≤ length the_plan.0
  few k t g =
      omega (
        arith,
        g.many,
        bound c ordered (λ w. false) the_plan.0 t.routes the_plan.1.cheapest (subst (λ b. StandApart c b t.routes) g.no_bars g.apart),
      )

  closes : (k : ℕ) (l : Option (Result Stepped Refusal)) (t : Told) → Ended (length c + 1) (record { grown = k; last = l }) l → RunTold c (last_step l ++ replicate k (a_step (Ok stepped.Grown))) t → Closes t
  closes k None t e r =
      absurd (omega (arith, few k t (grew k t r), plan_short c 0 the_plan.0 the_plan.1.cheapest.fits.planned (omega arith)))
  closes k (Some (Ok stepped.Grown)) t e (then_told r d) = absurd (e refl)
  closes k (Some (Ok stepped.Closed)) t e (then_told {s = s} r d) =
      let g : Grew k s = grew k s r in
      let w = stepped_so s g.open_now stepped.Closed t d in
      record {
        closed_now = ap (λ t. t.state) w.2;
        no_bars = ap (λ t. t.bars) w.2 ∙ g.no_bars;
        many = ap (λ t. length t.routes) w.2
            ∙ reach c ordered (λ w. false) the_plan.0 s.routes the_plan.1.cheapest (subst (λ b. StandApart c b s.routes) g.no_bars g.apart)
            (subst (λ b. (qs : List (List ℕ)) → StandApart c b qs → length qs ≤ length s.routes) g.no_bars w.1);
      }
  closes k (Some (Ok stepped.Blocked)) t e (then_told {s = s} r d) =
      let g : Grew k s = grew k s r in
      let w = stepped_so s g.open_now stepped.Blocked t d in
      absurd (not_blocked c (w.0, w.1, subst (λ b. AllByRecursion (λ v. b v ≡ true) w.0) g.no_bars w.2))
  closes k (Some (Err x)) t e (then_told {s = s} r d) = absurd (not_refused s (grew k s r).open_now x t d)

  module _ (before : List ℕ) (r : Result ℕ Refusal) (after : List ℕ) where
    err_number : (r : Result ℕ Refusal) (x : Refusal) (n : ℕ) → number_of x ≡ n → answered_by answer.Planned r ≡ Err x → refused_by r ≡ Some n
    err_number (Ok k) x n e f = let z : ◌≡◌ {A = ℕ} 0 1 = cc in absurd (omega arith)
    err_number (Err y) x n e f = let same : y ≡ x = cc in ap (λ y. Some (number_of y)) same ∙ ap Some e

    ok_count : (r : Result ℕ Refusal) (n : ℕ) → answered_by answer.Planned r ≡ Ok (answer.Planned n) → r ≡ Ok n
    ok_count (Ok k) n f = let same : k ≡ n = cc in ap Ok same
    ok_count (Err y) n f = let z : ◌≡◌ {A = ℕ} 0 1 = cc in absurd (omega arith)

    abbrev pub event : Event
    event = record { call = call.Plan (length before); before = before; answer = answered_by answer.Planned r; after = after }

    -- the plan call of a planning that is closed
    plan_written : (t : Told) → Closes t → DoesTold c t event t
        → WritesFront (ltb (length before) (length the_plan.0)) the_plan.0 before r after
    plan_written t k d =
        decided (ltb (length before) (length the_plan.0))
        (subst (λ n. DidTold (first_fault (faults c t.bars state.Closed n (call.Plan (length before)))) c t event t) k.many
        (subst (λ z. DidTold (first_fault (faults c t.bars z (counted z t.routes) (call.Plan (length before)))) c t event t) k.closed_now d.1))
      where
        decided : (b : Bool) → DidTold (cond b (Some 11) None) c t event t → WritesFront b the_plan.0 before r after
        decided true e = (err_number r e.0.0 11 e.0.1 e.0.2, e.0.3)
        decided false e =
            let same : e.0 ≡ the_plan.0 = the_plan.2 e.0 (subst (λ b. EarliestSmallest c b e.0) k.no_bars e.3) in (
              ok_count r (length the_plan.0) (e.1 ∙ ap (λ p. Ok (answer.Planned (length p))) same),
              e.2.1 ∙ ap (λ p. p ++ drop (length p) before) same,
            )

    -- steps to the end of a new planning, and then its plan
    pub finished : (this that : Told → Type 0) (s : Steps) → this (opened (λ w. false)) → Ended (length c + 1) s s.last
        → ((h : History) → Came c this h → Came c that (steps_made s ++ h)) → ((t : Told) → that t → DoesTold c t event t) → PlansFree c false before r after
    finished this that s new ended came asked =
        let end : Came c that (steps_made s ++ []) = came [] (opened (λ w. false), new, new_told) in (
          the_plan.0,
          the_plan.1,
          plan_written end.0
              (closes s.grown s.last end.0 ended (subst (λ h. RunTold c h end.0) (append-nil (steps_made s)) end.2))
              (asked end.0 end.1),
        )

-- with too little memory for the planning, and with enough of it
pub too_short : (c : List Making) → Ordered c → (b : Bool) → b ≡ true → (before : List ℕ) → PlansFree c b before (Err MemoryTooShort) before
too_short c ordered true e before = ((the_plan c ordered).0, (the_plan c ordered).1, (refl, refl))
too_short c ordered false e before = absurd (true≢false (sym e))

pub long_enough : (c : List Making) (b : Bool) (before : List ℕ) (r : Result ℕ Refusal) (after : List ℕ) → b ≡ false
    → PlansFree c false before r after → PlansFree c b before r after
long_enough c b before r after e p = subst (λ b. PlansFree c b before r after) (sym e) p
