-- Calls that keep a flow and a search do what is told of routes.
use Rattle.std.proofs.Common.{◌≡◌, ℕ, zero, suc, ◌+◌, ◌<◌, ◌≤◌, Bool, false, cond, not, ltb, leb, List, [], ◌∷◌, length, get_or, Some, None, Option, Result, sym, refl, ap, ◌∙◌, subst, ap₂, ⊎_elim, add-zero, arith}
use Rattle.std.proofs.lemmas.Bool.{cases_lt, leb-false}
use Rattle.std.proofs.lemmas.Option.{none-some}
use Rattle.circuits.specs.Answers.{first_fault}
use Rattle.circuits.specs.declared.answer.Refusal.{Refusal}
use Rattle.circuits.specs.declared.making.Making.{Making}
use Rattle.routes.specs.Routes.{Ordered, Wires}
use Rattle.routes.specs.Plans.{cost, ones, EarliestSmallest, Blocked}
use Rattle.routes.specs.Standing.{Stand}
use Rattle.routes.specs.Flows.{Flow, IsFlow, value, capacity}
use Rattle.routes.specs.Residuals.{Place, border, Closed}
use Rattle.routes.specs.Traces.{Traced, Traces}
use Rattle.routes.proofs.Standing.{apart_is_one_each}
use Rattle.routes.proofs.Traces.{units_have_rows, traces_are_routes, one_row_each}
use Rattle.routes.proofs.Cuts.{border_earliest}
use Rattle.routes.proofs.Plans.{listed_earliest, border_is_the_earliest, blocked_has_no_plan}
use Rattle.routes.proofs.Existence.{closed_bounds_standing}
use Rattle.runs.specs.Events.{Event, set_or_lifted}
use Rattle.runs.specs.Law.{is_open, offered, faults, IsAt}
use Rattle.runs.specs.Told.{Told, counted, opened, StandApart, StepTold, ObeysTold, DidTold, DoesTold}
use Rattle.runs.specs.Machine.{Stage, still_open, closed_by, blocked_by, tells, Standing, Begun, StepsTo, Borders, RowsAt, Obeys, Did, Does}
use Rattle.runs.specs.Shown.{Seen, FlowsDoWhatIsTold}
use Rattle.runs.proofs.Common.{passed}
use Rattle.runs.specs.declared.calls.Call.{Call}
use Rattle.runs.specs.declared.calls.Answer.{Answer}
use Rattle.runs.specs.declared.calls.Stepped.{Stepped}
use Rattle.runs.specs.declared.calls.Call.TheVariants as call
use Rattle.runs.specs.declared.calls.Stepped.TheVariants as stepped

traces_at : (x : Flow) (i : ℕ) (rs : List (List ℕ)) → Traces x i rs → (j : ℕ) → j < length rs → Traced x (i + j) (get_or rs j [])
traces_at x i [] t j h = absurd (omega arith)
traces_at x i (r ∷ rs) t zero h = subst (λ n. Traced x n r) (sym (add-zero i)) t.0
traces_at x i (r ∷ rs) t (suc j) h = subst (λ n. Traced x n (get_or rs j [])) (shift j) (traces_at x (suc i) rs t.1 j (omega arith))
  where
    shift : (j : ℕ) → suc i + j ≡ i + suc j
    shift j = omega arith

-- what is told of a standing with these routes
abbrev told : Standing → List (List ℕ) → Told
told s rs = record { bars = s.bars; state = tells s.stage; routes = rs }

module _ (c : List Making) (ordered : Ordered c) where
  all_rows : (bars : Wires) (x : Flow) → IsFlow c bars ones x → (n i : ℕ) → i + n ≤ value c x → (rs : List (List ℕ)) × Traces x i rs × (length rs ≡ n)
  all_rows bars x flow zero i h = ([], tt, refl)
  all_rows bars x flow (suc n) i h =
      let t : (rs : List (List ℕ)) × Traces x (suc i) rs × (length rs ≡ n) = all_rows bars x flow n (suc i) (omega arith) in
      let u : (r : List ℕ) × Traced x i r = units_have_rows c ordered bars ones x flow i (omega arith) in
      (u.0 ∷ t.0, (u.1, t.1), ap suc t.2)

  traces_apart : (bars : Wires) (x : Flow) → IsFlow c bars ones x → (rs : List (List ℕ)) → Traces x 0 rs → StandApart c bars rs
  traces_apart bars x flow rs t =
      let s : Stand c bars ones rs = traces_are_routes c ordered bars ones x flow rs t in
      (s.0, (apart_is_one_each bars rs).1 s.1)

  -- where no goal is reached there is a plan
  not_blocked : (bars : Wires) (x : Flow) → IsFlow c bars ones x → (mark : Place → Bool) → Closed c bars ones x mark → Blocked c bars → ⊥
  not_blocked bars x flow mark closed b =
      let t : (plan : List ℕ) × EarliestSmallest c bars plan × (cost ones plan ≡ capacity c ones (border mark)) =
      listed_earliest c ordered bars ones (border mark) (border_earliest c ordered bars ones x flow mark closed) in
      blocked_has_no_plan c ordered bars b t.0 t.1.cheapest.fits

  abbrev SeenOf : Standing → List (List ℕ) → Type 0
  SeenOf s rs = IsFlow c s.bars ones s.flow × Seen c s.bars s.flow s.stage rs

  count_seen : (bars : Wires) (x : Flow) (z : Stage) (rs : List (List ℕ)) → Seen c bars x z rs → value c x ≡ counted (tells z) rs
  count_seen bars x still_open rs h = sym h.1
  count_seen bars x (closed_by mark) rs h = sym h.1
  count_seen bars x (blocked_by r) rs h = h.1

  begun_seen : (bars : Wires) (s : Standing) → Begun c bars s → SeenOf s []
  begun_seen bars s b =
      (b.is_flow, subst (λ z. Seen c s.bars s.flow z []) (sym b.open_now) (tt, sym b.no_routes, λ l. absurd (omega (arith, b.no_routes))))

  begun_told : (bars : Wires) (s : Standing) → Begun c bars s → told s [] ≡ opened bars
  begun_told bars s b = ap₂ (λ q z. record { bars = q; state = tells z; routes = [] }) b.bars_are b.open_now

  -- one call, the routes being rs
  abbrev Simulated : Option ℕ → Standing → List (List ℕ) → Event → Standing → Type 0
  Simulated o s rs e u = (qs : List (List ℕ)) × DidTold o c (told s rs) e (told u qs) × SeenOf u qs

  -- a step is obeyed when open
  open_seen : (bars : Wires) (x : Flow) (z : Stage) (rs : List (List ℕ)) → Seen c bars x z rs → first_fault ((not (is_open (tells z)), 17) ∷ []) ≡ None
      → Traces x 0 rs × (length rs ≡ value c x) × (0 < value c x → Blocked c bars → ⊥)
  open_seen bars x still_open rs h f = h
  open_seen bars x (closed_by mark) rs h f = absurd (none-some 17 (sym f))
  open_seen bars x (blocked_by r) rs h f = absurd (none-some 17 (sym f))

  step_simulated : (s : Standing) (rs : List (List ℕ)) (b : Stepped) (u : Standing) → IsFlow c s.bars ones s.flow
      → Traces s.flow 0 rs × (length rs ≡ value c s.flow) × (0 < value c s.flow → Blocked c s.bars → ⊥) → StepsTo c s b u
      → (qs : List (List ℕ)) × StepTold c (told s rs) b (told u qs) × SeenOf u qs
  step_simulated s rs stepped.Grown u flow h d =
      let t : (qs : List (List ℕ)) × Traces u.flow 0 qs × (length qs ≡ value c u.flow) = all_rows u.bars u.flow d.is_flow (value c u.flow) 0 (omega arith) in (
        t.0,
        (
          d.not_blocked,
          (
            t.0,
            subst (λ bars. StandApart c bars t.0) d.bars_are (traces_apart u.bars u.flow d.is_flow t.0 t.1),
            omega (arith, t.2, d.one_more_route, h.1),
            ap₂ (λ q z. record { bars = q; state = tells z; routes = t.0 }) d.bars_are d.open_now,
          ),
        ),
        (
          d.is_flow,
          subst (λ z. Seen c u.bars u.flow z t.0) (sym d.open_now)
              (t.1, t.2, λ l. subst (λ bars. Blocked c bars → ⊥) (sym d.bars_are) d.not_blocked),
        ),
      )
  step_simulated s rs stepped.Closed u flow h d = (
    rs,
    (
      not_blocked s.bars s.flow flow d.mark d.closed,
      λ qs k. omega (arith, h.1, closed_bounds_standing c ordered s.bars ones s.flow flow d.mark d.closed qs (k.0, (apart_is_one_each s.bars qs).0 k.1)),
      ap (λ s. told s rs) d.now_is,
    ),
    subst (λ u. SeenOf u rs) (sym d.now_is) (flow, (h.0, h.1, d.closed)),
  )
  step_simulated s rs stepped.Blocked u flow h d = (
    d.row ∷ [],
    (d.row, d.route, d.all_barred, ap (λ s. told s (d.row ∷ [])) d.now_is),
    subst (λ u. SeenOf u (d.row ∷ [])) (sym d.now_is) (flow, (refl, none, d.route, d.all_barred)),
  )
    where
      none : value c s.flow ≡ 0
      none = ⊎_elim (λ l. absurd (h.2 l (d.row, d.route, d.all_barred))) (λ l. omega arith) (cases_lt 0 (value c s.flow))

  plan_seen : (bars : Wires) (x : Flow) (z : Stage) (rs : List (List ℕ)) (plan : List ℕ) → IsFlow c bars ones x → Seen c bars x z rs → Borders z plan
      → EarliestSmallest c bars plan
  plan_seen bars x still_open rs plan flow h b = absurd b
  plan_seen bars x (closed_by mark) rs plan flow h b = (border_is_the_earliest c ordered bars ones x flow mark h.2 plan b.0 b.1).0
  plan_seen bars x (blocked_by r) rs plan flow h b = absurd b

  row_seen : (bars : Wires) (x : Flow) (z : Stage) (rs : List (List ℕ)) (i : ℕ) (r : List ℕ) → Seen c bars x z rs → leb (offered (tells z) (value c x)) i ≡ false
      → RowsAt x z i r → IsAt rs (i, r)
  row_seen bars x still_open rs i r h l d = absurd d
  row_seen bars x (closed_by mark) rs i r h l d =
      let k : i < length rs = omega (arith, leb-false (value c x) i l, h.1) in
      (k, one_row_each x i (get_or rs i []) r (subst (λ n. Traced x n (get_or rs i [])) (plus_zero i) (traces_at x 0 rs h.0 i k)) d)
    where
      plus_zero : (n : ℕ) → 0 + n ≡ n
      plus_zero n = omega arith
  row_seen bars x (blocked_by row) rs i r h l d =
      subst (λ rs. IsAt rs (i, r)) (sym h.0) (omega (arith, leb-false 1 i l), at_first i (leb-false 1 i l) ∙ sym d)
    where
      at_first : (i : ℕ) → i < 1 → get_or (row ∷ []) i [] ≡ row
      at_first zero l = refl
      at_first (suc i) l = absurd (omega arith)

  obeyed : (s : Standing) (rs : List (List ℕ)) (a : Call) (before : List ℕ) (b : Result Answer Refusal) (after : List ℕ) (u : Standing) → SeenOf s rs
      → first_fault (faults c s.bars (tells s.stage) (value c s.flow) a) ≡ None → Obeys c s a before b after u
      → (qs : List (List ℕ)) × ObeysTold c (told s rs) a before b after (told u qs) × SeenOf u qs
  obeyed s rs (call.Bar w) before b after u h f d =
      ([], (d.0, d.1, begun_told (set_or_lifted (call.Bar w) s.bars) u d.2), begun_seen (set_or_lifted (call.Bar w) s.bars) u d.2)
  obeyed s rs (call.Unbar w) before b after u h f d =
      ([], (d.0, d.1, begun_told (set_or_lifted (call.Unbar w) s.bars) u d.2), begun_seen (set_or_lifted (call.Unbar w) s.bars) u d.2)
  obeyed s rs call.Step before b after u h f d =
      let t : (qs : List (List ℕ)) × StepTold c (told s rs) d.0 (told u qs) × SeenOf u qs =
      step_simulated s rs d.0 u h.0 (open_seen s.bars s.flow s.stage rs h.1 f) d.2 in
      (t.0, (d.0, d.1, t.1, d.3), t.2)
  obeyed s rs (call.Plan n) before b after u h f d =
      (rs, (d.0, d.1, d.2, plan_seen s.bars s.flow s.stage rs d.0 h.0 h.1 d.3, ap (λ s. told s rs) d.4), subst (λ u. SeenOf u rs) (sym d.4) h)
  obeyed s rs (call.Route i n) before b after u h f d = (
    rs,
    (
      d.0,
      d.1,
      d.2,
      row_seen s.bars s.flow s.stage rs i d.0 h.1
          (passed (leb (offered (tells s.stage) (value c s.flow)) i) 13 (cond (ltb n (length c)) (Some 11) None)
          (passed (is_open (tells s.stage)) 18
          (cond (leb (offered (tells s.stage) (value c s.flow)) i) (Some 13) (cond (ltb n (length c)) (Some 11) None))
          f).1).0
          d.3,
      ap (λ s. told s rs) d.4,
    ),
    subst (λ u. SeenOf u rs) (sym d.4) h,
  )

  simulated : (s : Standing) (rs : List (List ℕ)) (e : Event) (u : Standing) → SeenOf s rs
      → (o : Option ℕ) → first_fault (faults c s.bars (tells s.stage) (value c s.flow) e.call) ≡ o → Did o c s e u → Simulated o s rs e u
  simulated s rs e u h (Some n) f d = (rs, (d.0, ap (λ s. told s rs) d.1), subst (λ u. SeenOf u rs) (sym d.1) h)
  simulated s rs e u h None f d = obeyed s rs e.call e.before e.answer e.after u h f d

  does_told : (s : Standing) (rs : List (List ℕ)) (e : Event) (u : Standing) → SeenOf s rs → Does c s e u
      → (qs : List (List ℕ)) × DoesTold c (told s rs) e (told u qs) × SeenOf u qs
  does_told s rs e u h d =
      let t : Simulated (first_fault (faults c s.bars (tells s.stage) (value c s.flow) e.call)) s rs e u =
      simulated s rs e u h (first_fault (faults c s.bars (tells s.stage) (value c s.flow) e.call)) refl d.1 in (
        t.0,
        (
          d.0,
          subst (λ k. DidTold (first_fault (faults c s.bars (tells s.stage) k e.call)) c (told s rs) e (told u t.0))
              (count_seen s.bars s.flow s.stage rs h.1) t.1,
        ),
        t.2,
      )

pub flows_do_what_is_told : FlowsDoWhatIsTold
flows_do_what_is_told c ordered = (
  λ s bars b.
      let h : IsFlow c s.bars ones s.flow × Seen c s.bars s.flow s.stage [] = begun_seen c ordered bars s b in
      record { is_flow = h.0; seen = h.1; bars_are = sym b.bars_are; state_is = sym (ap tells b.open_now) },
  λ s u t e h d.
      let same : told s t.routes ≡ t = ap₂ (λ q z. record { bars = q; state = z; routes = t.routes }) (sym h.bars_are) (sym h.state_is) in
      let k : (qs : List (List ℕ)) × DoesTold c (told s t.routes) e (told u qs) × (IsFlow c u.bars ones u.flow × Seen c u.bars u.flow u.stage qs) =
      does_told c ordered s t.routes e u (h.is_flow, h.seen) d in (
        told u k.0,
        subst (λ t. DoesTold c t e (told u k.0)) same k.1,
        record { is_flow = k.2.0; seen = k.2.1; bars_are = refl; state_is = refl },
      ),
)
