-- Every call has an answer.
use Rattle.std.proofs.Common.{◌≡◌, ℕ, ◌+◌, ◌<◌, ◌≤◌, false, cond, ltb, leb, List, [], ◌∷◌, ◌++◌, length, get_or, drop, Some, None, Ok, Err, Option, Result, sym, refl, ap, subst, ⊎_elim, arith}
use Rattle.std.specs.List.{AllByRecursion}
use Rattle.std.proofs.ByRecursion.{All-get_or}
use Rattle.std.proofs.lemmas.Bool.{true≢false, cases_lt, leb-false, ltb-false}
use Rattle.std.proofs.lemmas.Option.{none-some}
use Rattle.circuits.specs.Answers.{number_of, first_fault}
use Rattle.circuits.specs.declared.answer.Refusal.{Refusal}
use Rattle.circuits.specs.declared.making.Making.{Making}
use Rattle.routes.specs.Routes.{Ordered, Wires, Joined, Route}
use Rattle.routes.specs.Standing.{Apart}
use Rattle.routes.specs.Plans.{ones}
use Rattle.routes.proofs.Wires.{product_in, passes_in, lower}
use Rattle.routes.proofs.Plans.{blocked_has_no_plan}
use Rattle.routes.proofs.Existence.{earliest_exists_unless_blocked, routes_apart_up_to_size}
use Rattle.runs.specs.Events.{Given, room_of, set_or_lifted, epoch}
use Rattle.runs.specs.Law.{is_open, offered, faults}
use Rattle.runs.specs.Told.{Told, counted, opened, DidTold, then_told}
use Rattle.run_laws.specs.Consequences.{RunsGoOn}
use Rattle.runs.proofs.Common.{passed}
use Rattle.run_laws.proofs.Numbers.{refusal_numbered, fault_numbered}
use Rattle.runs.proofs.Told.{Held, bound, reach, told_holds}
use Rattle.runs.specs.declared.calls.Call.{Call}
use Rattle.runs.specs.declared.calls.Answer.{Answer}
use Rattle.runs.specs.declared.calls.State.{State}
use Rattle.runs.specs.declared.calls.Call.TheVariants as call
use Rattle.runs.specs.declared.calls.Answer.TheVariants as answer
use Rattle.runs.specs.declared.calls.State.TheVariants as state
use Rattle.runs.specs.declared.calls.Stepped.TheVariants as stepped

module _ (c : List Making) (ordered : Ordered c) where
  -- a route has no more wires than the circuit
  joined_short : (v : ℕ) (ws : List ℕ) → Joined c v ws → v < length c → v + length ws < length c
  joined_short v [] j h = omega arith
  joined_short v (w ∷ ws) j h = omega (arith, lower c ordered v w j.0, joined_short w ws j.1 (passes_in c w v j.0))

  route_short : (r : List ℕ) → Route c r → length r ≤ length c
  route_short [] f = absurd f
  route_short (w ∷ ws) f = omega (arith, joined_short w ws f.1 (product_in c w f.0))

  -- some answer, memory and planning after the call
  abbrev Can : Told → Call → List ℕ → Option ℕ → Type 0
  Can s a m o = (b : Result Answer Refusal) × (n : List ℕ) × (t : Told) × DidTold o c s (record { call = a; before = m; answer = b; after = n }) t

  step_can : (s : Told) (m : List ℕ) → Can s call.Step m None
  step_can s m =
      ⊎_elim
      (λ b. (Ok (answer.Stepped stepped.Blocked), m, record { bars = s.bars; state = state.Blocked; routes = b.0 ∷ [] }, (stepped.Blocked, refl, (b.0, b.1, b.2, refl), refl)))
      (λ e. ⊎_elim
      (λ (l : length s.routes < length e.0).
      let t : (rs : List (List ℕ)) × AllByRecursion (Route c) rs × Apart s.bars rs × (length rs ≡ length s.routes + 1) =
      (routes_apart_up_to_size c ordered s.bars e.0 e.1.cheapest (length s.routes + 1)).1 (omega arith) in (
        Ok (answer.Stepped stepped.Grown),
        m,
        record { bars = s.bars; state = state.Open; routes = t.0 },
        (stepped.Grown, refl, (λ b. blocked_has_no_plan c ordered s.bars b e.0 e.1.cheapest.fits, (t.0, (t.1, t.2), t.3, refl)), refl),
      ))
      (λ (l : length e.0 ≤ length s.routes). (
        Ok (answer.Stepped stepped.Closed),
        m,
        record { bars = s.bars; state = state.Closed; routes = s.routes },
        (
          stepped.Closed,
          refl,
          (
            λ b. blocked_has_no_plan c ordered s.bars b e.0 e.1.cheapest.fits,
            λ qs a. omega (arith, bound c ordered s.bars e.0 qs e.1.cheapest a),
            refl,
          ),
          refl,
        ),
      ))
      (cases_lt (length s.routes) (length e.0)))
      (earliest_exists_unless_blocked c ordered s.bars ones)

  plan_can : (bars : Wires) (z : State) (rs : List (List ℕ)) (gs : List Given) (n : ℕ) (m : List ℕ) → Held c bars z rs gs → length m ≡ n
      → first_fault (faults c bars z (counted z rs) (call.Plan n)) ≡ None
      → Can (record { bars = bars; state = z; routes = rs }) (call.Plan n) m None
  plan_can bars state.Open rs gs n m h l f = absurd (none-some 18 (sym f))
  plan_can bars state.Closed rs gs n m h l f =
      ⊎_elim (λ b. absurd (h.2 b))
      (λ e.
      let k : length rs ≡ length e.0 = reach c ordered bars e.0 rs e.1.cheapest h.0 h.1 in (
        Ok (answer.Planned (length e.0)),
        e.0 ++ drop (length e.0) m,
        record { bars = bars; state = state.Closed; routes = rs },
        (e.0, refl, (omega (arith, ltb-false n (length rs) (passed (ltb n (length rs)) 11 None f).0), refl), e.1, refl),
      ))
      (earliest_exists_unless_blocked c ordered bars ones)
  plan_can bars state.Blocked rs gs n m h l f = absurd (none-some 19 (sym f))

  -- as many routes are at hand as can be asked for
  at_hand : (bars : Wires) (z : State) (rs : List (List ℕ)) (gs : List Given) → Held c bars z rs gs → is_open z ≡ false
      → AllByRecursion (Route c) rs × (offered z (counted z rs) ≡ length rs)
  at_hand bars state.Open rs gs h o = absurd (true≢false o)
  at_hand bars state.Closed rs gs h o = (h.0.0, refl)
  at_hand bars state.Blocked rs gs h o = (subst (λ rs. AllByRecursion (Route c) rs) (sym h.1) (h.2, tt), sym (ap length h.1))

  route_can : (s : Told) (gs : List Given) (i n : ℕ) (m : List ℕ) → Held c s.bars s.state s.routes gs → length m ≡ n
      → first_fault (faults c s.bars s.state (counted s.state s.routes) (call.Route i n)) ≡ None → Can s (call.Route i n) m None
  route_can s gs i n m h l f =
      let k : ℕ = offered s.state (counted s.state s.routes) in
      let not_open : (is_open s.state ≡ false) × (cond (leb k i) (Some 13) (cond (ltb n (length c)) (Some 11) None) ≡ None) =
      passed (is_open s.state) 18 (cond (leb k i) (Some 13) (cond (ltb n (length c)) (Some 11) None)) f in
      let low : (leb k i ≡ false) × (cond (ltb n (length c)) (Some 11) None ≡ None) = passed (leb k i) 13 (cond (ltb n (length c)) (Some 11) None) not_open.1 in
      let hand : AllByRecursion (Route c) s.routes × (k ≡ length s.routes) = at_hand s.bars s.state s.routes gs h not_open.0 in
      let below : i < length s.routes = omega (arith, leb-false k i low.0, hand.1) in
      let r : List ℕ = get_or s.routes i [] in
      let short : length r ≤ length c = route_short r (All-get_or (Route c) s.routes i [] below hand.0) in (
        Ok (answer.Routed (length r)),
        r ++ drop (length r) m,
        s,
        (r, refl, (omega (arith, ltb-false n (length c) (passed (ltb n (length c)) 11 None low.1).0), refl), (below, refl), refl),
      )

  can : (s : Told) (gs : List Given) (a : Call) (m : List ℕ) → Held c s.bars s.state s.routes gs → length m ≡ room_of a
      → (o : Option ℕ) → first_fault (faults c s.bars s.state (counted s.state s.routes) a) ≡ o → Can s a m o
  can s gs a m h l (Some n) f =
      let e : number_of (refusal_numbered n) ≡ n = fault_numbered c s.bars s.state (counted s.state s.routes) a n f in
      (Err (refusal_numbered n), m, s, ((refusal_numbered n, e, refl, refl), refl))
  can s gs (call.Bar w) m h l None f = (Ok answer.Done, m, opened (set_or_lifted (call.Bar w) s.bars), (refl, refl, refl))
  can s gs (call.Unbar w) m h l None f = (Ok answer.Done, m, opened (set_or_lifted (call.Unbar w) s.bars), (refl, refl, refl))
  can s gs call.Step m h l None f = step_can s m
  can s gs (call.Plan n) m h l None f = plan_can s.bars s.state s.routes gs n m h l f
  can s gs (call.Route i n) m h l None f = route_can s gs i n m h l f

pub runs_go_on : RunsGoOn
runs_go_on c ordered h s r a m l =
    let o : Option ℕ = first_fault (faults c s.bars s.state (counted s.state s.routes) a) in
    let t : Can c ordered s a m o = can c ordered s (epoch h).given a m (told_holds c ordered r).0.held l o refl in
    (t.0, t.1, t.2, then_told r (l, t.3))
