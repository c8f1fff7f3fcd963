-- Every run of calls that do what is told is lawful.
use Rattle.std.proofs.Common.{◌≡◌, ℕ, ◌<◌, ◌≤◌, true, false, cond, not, eqb, ltb, leb, List, [], ◌∷◌, length, Some, None, Ok, Option, Result, sym, refl, ap, ◌∙◌, subst, ap₂, ⊎_elim, arith}
use Rattle.std.specs.List.{AllByRecursion}
use Rattle.std.proofs.lemmas.Bool.{true≢false, cases_lt}
use Rattle.std.proofs.lemmas.Option.{none-some}
use Rattle.circuits.specs.Answers.{first_fault}
use Rattle.circuits.specs.declared.answer.Refusal.{Refusal}
use Rattle.circuits.specs.declared.making.Making.{Making}
use Rattle.routes.specs.Routes.{Ordered, Wires, Route}
use Rattle.routes.specs.Standing.{Apart}
use Rattle.routes.specs.Plans.{ones, Smallest, EarliestSmallest, Blocked}
use Rattle.routes.proofs.Existence.{earliest_exists_unless_blocked, routes_apart_up_to_size}
use Rattle.runs.specs.Events.{Event, History, Given, refused_by_12, set_or_lifted, barred, index, after_answer, epoch}
use Rattle.runs.specs.Law.{is_open, offered, faults, Steps, Plans, Obeyed, RefusedBy, Answered, Answers, IsAt, RoutesStand, RoutesAt, LawfulRun}
use Rattle.runs.specs.Told.{Told, counted, opened, StandApart, StepTold, ObeysTold, DidTold, DoesTold, RunTold, new_told, then_told, ToldRunsAreLawful}
use Rattle.runs.proofs.Common.{read_again, passed, bars_stay}
use Rattle.runs.specs.declared.calls.Call.{Call}
use Rattle.runs.specs.declared.calls.Answer.{Answer}
use Rattle.runs.specs.declared.calls.State.{State}
use Rattle.runs.specs.declared.calls.Stepped.{Stepped}
use Rattle.runs.specs.declared.calls.Call.TheVariants as call
use Rattle.runs.specs.declared.calls.Answer.TheVariants as answer
use Rattle.runs.specs.declared.calls.State.TheVariants as state
use Rattle.runs.specs.declared.calls.Stepped.TheVariants as stepped

-- what stands, and what was given of it
abbrev pub Held : List Making → Wires → State → List (List ℕ) → List Given → Type 0
Held c bars state.Open rs gs = StandApart c bars rs × (0 < length rs → Blocked c bars → ⊥) × (gs ≡ [])
Held c bars state.Closed rs gs =
    StandApart c bars rs × ((qs : List (List ℕ)) → StandApart c bars qs → length qs ≤ length rs) × (Blocked c bars → ⊥) × AllByRecursion (IsAt rs) gs
Held c bars state.Blocked rs gs = (r : List ℕ) × (rs ≡ r ∷ []) × Route c r × AllByRecursion (λ w. bars w ≡ true) r × AllByRecursion (IsAt (r ∷ [])) gs

-- what the history tells is what stands
pub record Holds (c : List Making) (h : History) (s : Told) : Type 0 where
  pub bars_are : barred h ≡ s.bars
  pub state_is : (epoch h).state ≡ s.state
  pub count_is : (epoch h).grown ≡ counted s.state s.routes
  pub held : Held c s.bars s.state s.routes (epoch h).given

module _ (c : List Making) (ordered : Ordered c) where
  -- routes that stand apart are no more than the wires of a smallest plan
  pub bound : (bars : Wires) (plan : List ℕ) (rs : List (List ℕ)) → Smallest c bars plan → StandApart c bars rs → length rs ≤ length plan
  bound bars plan rs f a = (routes_apart_up_to_size c ordered bars plan f (length rs)).0 (rs, a.0, a.1, refl)

  -- and if no more can stand, they are as many
  pub reach : (bars : Wires) (plan : List ℕ) (rs : List (List ℕ)) → Smallest c bars plan → StandApart c bars rs
      → ((qs : List (List ℕ)) → StandApart c bars qs → length qs ≤ length rs) → length rs ≡ length plan
  reach bars plan rs f a most =
      let t : (qs : List (List ℕ)) × AllByRecursion (Route c) qs × Apart bars qs × (length qs ≡ length plan) = (routes_apart_up_to_size c ordered bars plan f (length plan)).1 (omega arith) in
      omega (arith, bound bars plan rs f a, most t.0 (t.1, t.2), t.3)

  routes_stand : (bars : Wires) (s : State) (rs : List (List ℕ)) (gs : List Given) → Held c bars s rs gs → RoutesStand c bars s (counted s rs) gs
  routes_stand bars state.Open rs gs h = h.2
  routes_stand bars state.Closed rs gs h = (rs, h.0.0, h.0.1, refl, h.3)
  routes_stand bars state.Blocked rs gs h = (h.0, h.2, h.3, h.4)

  plan_told : (bars : Wires) (s : State) (rs : List (List ℕ)) (gs : List Given) (n : ℕ) (plan : List ℕ) → Held c bars s rs gs
      → first_fault (faults c bars s (counted s rs) (call.Plan n)) ≡ None → EarliestSmallest c bars plan → Plans c bars (counted s rs) plan
  plan_told bars state.Open rs gs n plan h f early = absurd (none-some 18 (sym f))
  plan_told bars state.Closed rs gs n plan h f early =
      record { earliest = early; as_many = sym (reach bars plan rs early.cheapest h.0 h.1) }
  plan_told bars state.Blocked rs gs n plan h f early = absurd (none-some 19 (sym f))

  steps : (s : Told) (gs : List Given) (a : Stepped) (t : Told) → Held c s.bars state.Open s.routes gs → StepTold c s a t
      → Steps c s.bars (length s.routes) a
  steps s gs stepped.Grown t h d = (
    d.0,
    ⊎_elim (λ b. absurd (d.0 b))
        (λ e. (e.0, e.1.cheapest, omega (arith, d.1.2, bound s.bars e.0 d.1.0 e.1.cheapest d.1.1)))
        (earliest_exists_unless_blocked c ordered s.bars ones),
  )
  steps s gs stepped.Closed t h d = (
    d.0,
    ⊎_elim (λ b. absurd (d.0 b))
        (λ e. (e.0, e.1.cheapest, reach s.bars e.0 s.routes e.1.cheapest h.0 d.1))
        (earliest_exists_unless_blocked c ordered s.bars ones),
  )
  steps s gs stepped.Blocked t h d = (d.0, d.1, d.2)

  -- a step is obeyed when open
  open_then : (s : State) → first_fault ((not (is_open s), 17) ∷ []) ≡ None → s ≡ state.Open
  open_then state.Open f = refl
  open_then state.Closed f = absurd (none-some 17 (sym f))
  open_then state.Blocked f = absurd (none-some 17 (sym f))

  obeyed : (s : Told) (gs : List Given) (a : Call) (before : List ℕ) (b : Result Answer Refusal) (after : List ℕ) (t : Told) → Held c s.bars s.state s.routes gs
      → first_fault (faults c s.bars s.state (counted s.state s.routes) a) ≡ None
      → ObeysTold c s a before b after t → Obeyed c s.bars (counted s.state s.routes) a before b after
  obeyed s gs (call.Bar w) before b after t h f d = (d.0, d.1)
  obeyed s gs (call.Unbar w) before b after t h f d = (d.0, d.1)
  obeyed s gs call.Step before b after t h f d =
      let o : s.state ≡ state.Open = open_then s.state f in (
        d.0,
        d.1,
        subst (λ z. Steps c s.bars (counted z s.routes) d.0) (sym o)
            (steps s gs d.0 t (subst (λ z. Held c s.bars z s.routes gs) o h) d.2),
        d.3,
      )
  obeyed s gs (call.Plan n) before b after t h f d =
      (d.0, d.1, d.2, plan_told s.bars s.state s.routes gs n d.0 h f d.3)
  obeyed s gs (call.Route i n) before b after t h f d = (d.0, d.1, d.2)

  answered : (s : Told) (gs : List Given) (e : Event) (t : Told) → Held c s.bars s.state s.routes gs
      → (o : Option ℕ) → first_fault (faults c s.bars s.state (counted s.state s.routes) e.call) ≡ o
      → DidTold o c s e t → Answered o c s.bars (counted s.state s.routes) e
  answered s gs e t h (Some n) f d = d.0
  answered s gs e t h None f d = obeyed s gs e.call e.before e.answer e.after t h f d

  answers : (h : History) (s : Told) (e : Event) (t : Told) → Holds c h s → DoesTold c s e t → Answers c (barred h) (epoch h).state (epoch h).grown e
  answers h s e t k d =
      subst (λ b. Answers c b (epoch h).state (epoch h).grown e) (sym k.bars_are)
      (subst (λ q. Answers c s.bars q (epoch h).grown e) (sym k.state_is)
      (subst (λ n. Answers c s.bars s.state n e) (sym k.count_is)
      (answered s (epoch h).given e t k.held (first_fault (faults c s.bars s.state (counted s.state s.routes) e.call)) refl d.1)))

  moment : (h : History) (s : Told) → Holds c h s → RoutesAt c h
  moment h s k =
      subst (λ b. RoutesStand c b (epoch h).state (epoch h).grown (epoch h).given) (sym k.bars_are)
      (subst (λ q. RoutesStand c s.bars q (epoch h).grown (epoch h).given) (sym k.state_is)
      (subst (λ n. RoutesStand c s.bars s.state n (epoch h).given) (sym k.count_is)
      (routes_stand s.bars s.state s.routes (epoch h).given k.held)))

  refused_next : (h : History) (s : Told) (e : Event) (n : ℕ) → Holds c h s
      → first_fault (faults c s.bars s.state (counted s.state s.routes) e.call) ≡ Some n → RefusedBy n e → Holds c (e ∷ h) s
  refused_next h s e n k f q =
      record {
        bars_are =
            ap₂ (λ a b. cond (refused_by_12 a) b (set_or_lifted e.call b)) q.2 k.bars_are
            ∙ ap (λ m. cond (eqb m 12) s.bars (set_or_lifted e.call s.bars)) q.1
            ∙ bars_stay c s.bars s.state (counted s.state s.routes) e.call n f;
        state_is = ap (λ a. (after_answer (index e.call) e.after a (epoch h)).state) q.2 ∙ k.state_is;
        count_is = ap (λ a. (after_answer (index e.call) e.after a (epoch h)).grown) q.2 ∙ k.count_is;
        held =
            subst (λ gs. Held c s.bars s.state s.routes gs)
            (sym (ap (λ a. (after_answer (index e.call) e.after a (epoch h)).given) q.2)) k.held;
      }

  opened_held : (bars : Wires) → Held c bars state.Open [] []
  opened_held bars = ((tt, tt), (λ l. absurd (omega arith)), refl)

  begun_next : (h : History) (s : Told) (e : Event) → Holds c h s → e.answer ≡ Ok answer.Done → Holds c (e ∷ h) (opened (set_or_lifted e.call s.bars))
  begun_next h s e k q =
      record {
        bars_are = ap₂ (λ a b. cond (refused_by_12 a) b (set_or_lifted e.call b)) q k.bars_are;
        state_is = ap (λ a. (after_answer (index e.call) e.after a (epoch h)).state) q;
        count_is = ap (λ a. (after_answer (index e.call) e.after a (epoch h)).grown) q;
        held =
            subst (λ gs. Held c (set_or_lifted e.call s.bars) state.Open [] gs)
            (sym (ap (λ a. (after_answer (index e.call) e.after a (epoch h)).given) q)) (opened_held (set_or_lifted e.call s.bars));
      }

  abbrev now : Call → List ℕ → Result Answer Refusal → List ℕ → History → History
  now a before b after h = record { call = a; before = before; answer = b; after = after } ∷ h

  stepped_next : (h : History) (s : Told) (before : List ℕ) (b : Stepped) (after : List ℕ) (t : Told) → Holds c h s
      → s.state ≡ state.Open → Held c s.bars state.Open s.routes (epoch h).given → (epoch h).grown ≡ length s.routes → StepTold c s b t
      → Holds c (now call.Step before (Ok (answer.Stepped b)) after h) t
  stepped_next h s before stepped.Grown after t k o u n d =
      subst (λ t. Holds c (now call.Step before (Ok (answer.Stepped stepped.Grown)) after h) t) (sym d.1.3)
      record {
        bars_are = k.bars_are;
        state_is = k.state_is ∙ o;
        count_is = omega (arith, n, d.1.2);
        held = (d.1.1, (λ l. d.0), u.2);
      }
  stepped_next h s before stepped.Closed after t k o u n d =
      subst (λ t. Holds c (now call.Step before (Ok (answer.Stepped stepped.Closed)) after h) t) (sym d.2)
      record {
        bars_are = k.bars_are;
        state_is = refl;
        count_is = n;
        held = (u.0, d.1, d.0, subst (λ gs. AllByRecursion (IsAt s.routes) gs) (sym u.2) tt);
      }
  stepped_next h s before stepped.Blocked after t k o u n d =
      subst (λ t. Holds c (now call.Step before (Ok (answer.Stepped stepped.Blocked)) after h) t) (sym d.3)
      record {
        bars_are = k.bars_are;
        state_is = refl;
        count_is = n ∙ none;
        held = (d.0, refl, d.1, d.2, subst (λ gs. AllByRecursion (IsAt (d.0 ∷ [])) gs) (sym u.2) tt);
      }
    where
      none : length s.routes ≡ 0
      none = ⊎_elim (λ l. absurd (u.1 l (d.0, d.1, d.2))) (λ l. omega arith) (cases_lt 0 (length s.routes))

  given_more : (bars : Wires) (z : State) (rs : List (List ℕ)) (gs : List Given) (i : ℕ) (r : List ℕ) → Held c bars z rs gs → is_open z ≡ false
      → IsAt rs (i, r) → Held c bars z rs ((i, r) ∷ gs)
  given_more bars state.Open rs gs i r h l d = absurd (true≢false l)
  given_more bars state.Closed rs gs i r h l d = (h.0, h.1, h.2, (d, h.3))
  given_more bars state.Blocked rs gs i r h l d = (h.0, h.1, h.2, h.3, (subst (λ rs. IsAt rs (i, r)) h.1 d, h.4))

  obeyed_next : (h : History) (s : Told) (a : Call) (before : List ℕ) (b : Result Answer Refusal) (after : List ℕ) (t : Told) → Holds c h s
      → first_fault (faults c s.bars s.state (counted s.state s.routes) a) ≡ None → ObeysTold c s a before b after t
      → Holds c (now a before b after h) t
  obeyed_next h s (call.Bar w) before b after t k f d =
      subst (λ t. Holds c (now (call.Bar w) before b after h) t) (sym d.2) (begun_next h s (record { call = call.Bar w; before = before; answer = b; after = after }) k d.0)
  obeyed_next h s (call.Unbar w) before b after t k f d =
      subst (λ t. Holds c (now (call.Unbar w) before b after h) t) (sym d.2) (begun_next h s (record { call = call.Unbar w; before = before; answer = b; after = after }) k d.0)
  obeyed_next h s call.Step before b after t k f d =
      let o : s.state ≡ state.Open = open_then s.state f in
      subst (λ b. Holds c (now call.Step before b after h) t) (sym d.1)
      (stepped_next h s before d.0 after t k o (subst (λ z. Held c s.bars z s.routes (epoch h).given) o k.held)
      (k.count_is ∙ ap (λ z. counted z s.routes) o) d.2)
  obeyed_next h s (call.Plan n) before b after t k f d =
      subst (λ b. Holds c (now (call.Plan n) before b after h) t) (sym d.1)
      (subst (λ t. Holds c (now (call.Plan n) before (Ok (answer.Planned (length d.0))) after h) t) (sym d.4)
      record { bars_are = k.bars_are; state_is = k.state_is; count_is = k.count_is; held = k.held })
  obeyed_next h s (call.Route i n) before b after t k f d =
      subst (λ b. Holds c (now (call.Route i n) before b after h) t) (sym d.1)
      (subst (λ t. Holds c (now (call.Route i n) before (Ok (answer.Routed (length d.0))) after h) t) (sym d.4)
      record {
        bars_are = k.bars_are;
        state_is = k.state_is;
        count_is = k.count_is;
        held =
            subst (λ r. Held c s.bars s.state s.routes ((i, r) ∷ (epoch h).given)) (sym (read_again d.0 before after d.2))
            (given_more s.bars s.state s.routes (epoch h).given i d.0 k.held
            (passed (is_open s.state) 18
            (cond (leb (offered s.state (counted s.state s.routes)) i) (Some 13) (cond (ltb n (length c)) (Some 11) None))
            f).0
            d.3);
      })

  next : (h : History) (s : Told) (e : Event) (t : Told) → Holds c h s
      → (o : Option ℕ) → first_fault (faults c s.bars s.state (counted s.state s.routes) e.call) ≡ o → DidTold o c s e t → Holds c (e ∷ h) t
  next h s e t k (Some n) f d = subst (λ t. Holds c (e ∷ h) t) (sym d.1) (refused_next h s e n k f d.0)
  next h s e t k None f d = obeyed_next h s e.call e.before e.answer e.after t k f d

  pub told_holds : {h : History} {s : Told} → RunTold c h s → Holds c h s × LawfulRun c h
  told_holds new_told = (record { bars_are = refl; state_is = refl; count_is = refl; held = opened_held (λ w. false) }, tt)
  told_holds (then_told {h = h} {s = s} {t = t} {e = e} r d) =
      let k : Holds c h s × LawfulRun c h = told_holds r in
      let m : Holds c (e ∷ h) t = next h s e t k.0 (first_fault (faults c s.bars s.state (counted s.state s.routes) e.call)) refl d.1 in
      (m, (k.1, d.0, answers h s e t k.0 d, moment (e ∷ h) t m))

pub told_runs_are_lawful : ToldRunsAreLawful
told_runs_are_lawful c ordered h t r = (told_holds c ordered r).1
