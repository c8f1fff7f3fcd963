-- The calls that write into lent room, in each of their endings.
use Rattle.std.proofs.Common.{◌≡◌, ℕ, ◌+◌, ◌*◌, ◌<◌, ◌≤◌, Bool, false, cond, not, ◌&&◌, ltb, leb, List, length, get_or, take, drop, Some, None, Ok, Err, Option, sym, refl, ap, ◌∙◌, subst, ap₂, ⊎_elim, arith}
use Rattle.std.proofs.lemmas.Bool.{cases_lt, lt-leb, lt-ltb, le-ltb}
use Rattle.circuits.specs.Levels.{has}
use Rattle.circuits.specs.declared.answer.Refusal.TheVariants as refusal
use Rattle.circuits.specs.declared.making.Making.{Making}
use Rattle.routes.specs.Residuals.{border, exit}
use Rattle.rows.specs.Held.{circuit_of}
use Rattle.rows.proofs.HeldCircuit.{circuit_length}
use Rattle.flows.specs.Kept.{flow_in, routes_in}
use Rattle.flows.specs.Found.{marks}
use Rattle.flows.specs.Listing.{Listing}
use Rattle.flows.specs.Numbers as numbers
use Rattle.runs.specs.Law.{is_open, is_blocked, offered}
use Rattle.runs.specs.Machine.{Standing, tells, Borders, RowsAt, Does}
use Rattle.runs.specs.declared.calls.State.{State}
use Rattle.runs.specs.declared.calls.Call.TheVariants as call
use Rattle.runs.specs.declared.calls.Answer.TheVariants as answer
use Rattle.plannings.specs.Ready.{state_of, stage_of, standing_of, Staged, lent}
use Rattle.plannings.specs.Lending.{IsReady}
use Rattle.plannings.specs.declared.kept.Kept.{Kept}
use Rattle.plannings.specs.declared.lent.Lent.{Lent}
use Rattle.plannings.specs.declared.kept.Phase.{Phase}
use Rattle.plannings.specs.declared.kept.Phase.TheVariants as phase
use Rattle.plannings.proofs.Counts.{count_few}
use Rattle.plannings.proofs.Faults.{met, not_met, refuses, obeys, front_length, wrote_front}

-- the stage tells the state of the phase
pub told_phase : (m : List ℕ) (n : ℕ) (z : Phase) → tells (stage_of m n z) ≡ state_of z
told_phase m n (phase.Open next) = refl
told_phase m n phase.Closed = refl
told_phase m n (phase.Blocked h) = refl

-- past the last wire there is no border
border_past : (m : List ℕ) (n w : ℕ) → n ≤ w → border (marks m n) w ≡ false
border_past m n w h =
    ap (λ b. (b && ltb 0 (get_or m (13 * n + 2 * w) 0)) && not (marks m n (exit w))) (le-ltb (2 * w) (2 * n) (omega arith))

listed_border : (m : List ℕ) (n len : ℕ) (before after : List ℕ) → Listing (border (marks m n)) n len before after → (w : ℕ) → has w (take len after) ≡ border (marks m n) w
listed_border m n len before after l w =
    l.wires w
    ∙ ⊎_elim (λ (k : w < n). ap (λ b. b && border (marks m n) w) (lt-ltb w n k))
    (λ (k : n ≤ w). ap (λ b. b && border (marks m n) w) (le-ltb w n k) ∙ sym (border_past m n w k)) (cases_lt w n)

module _ (p : Lent) (h : IsReady p) (before : List ℕ) where
  abbrev n : ℕ
  n = p.rows.wires

  abbrev m : List ℕ
  m = p.rows.memory.now

  abbrev q : Kept
  q = p.kept

  abbrev circuit : List Making
  circuit = circuit_of m n

  abbrev standing : Standing
  standing = standing_of m n q

  abbrev told : State
  told = tells standing.stage

  told_is : (z : Phase) → q.phase ≡ z → told ≡ state_of z
  told_is z e = told_phase m n q.phase ∙ ap state_of e

  staged_is : (z : Phase) → q.phase ≡ z → Staged z n m q.routes
  staged_is z e = subst (λ z. Staged z n m q.routes) e h.staged

  -- plan
  abbrev short : Option ℕ
  short = cond (ltb (length before) (routes_in m n)) (Some 11) None

  module _ (e : q.phase ≡ phase.Closed) where
    plan_tests : (o : Option ℕ) → short ≡ o → cond (is_open told) (Some 18) (cond (is_blocked told) (Some 19) short) ≡ o
    plan_tests o f =
        not_met (is_open told) 18 (cond (is_blocked told) (Some 19) short) o (ap is_open (told_is phase.Closed e))
        (not_met (is_blocked told) 19 short o (ap is_blocked (told_is phase.Closed e)) f)

    pub plan_done : q.routes ≤ length before → (k : ℕ) (after : List ℕ) → length after ≡ length before → Listing (border (marks m n)) n k before after
        → Does circuit standing (lent (call.Plan (length before)) before (Ok (answer.Planned k)) after) standing
    plan_done l k after same w =
        obeys circuit standing (call.Plan (length before)) before refl (Ok (answer.Planned k)) after standing
        (plan_tests None (not_met (ltb (length before) (routes_in m n)) 11 None None (le-ltb (length before) (routes_in m n) (omega (arith, h.routes))) refl)) (
          take k after,
          ap (λ n. Ok (answer.Planned n)) (sym (front_length k after w.long)),
          wrote_front k before after w.long same w.rest,
          subst (λ z. Borders (stage_of m n z) (take k after)) (sym e) (w.ascending, listed_border m n k before after w),
          refl,
        )

    pub routes_fit : q.routes ≤ n
    routes_fit = omega (arith, (staged_is phase.Closed e).0, count_few (border (marks m n)) n)

    pub traceable : numbers.Ready n m
    traceable = (staged_is phase.Closed e).1

  -- route
  abbrev narrow : Option ℕ
  narrow = cond (ltb (length before) (length circuit)) (Some 11) None

  abbrev high : ℕ → Option ℕ
  high i = cond (leb (offered told (routes_in m n)) i) (Some 13) narrow

  module _ (i : ℕ) where
    module _ (z : Phase) (e : q.phase ≡ z) (o : is_open (state_of z) ≡ false) where
      offered_is : (b : Bool) → leb (offered (state_of z) q.routes) i ≡ b → leb (offered told (routes_in m n)) i ≡ b
      offered_is b f = ap₂ (λ t k. leb (offered t k) i) (told_is z e) h.routes ∙ f

      past_open : (r : Option ℕ) → high i ≡ r → cond (is_open told) (Some 18) (high i) ≡ r
      past_open r f = not_met (is_open told) 18 (high i) r (ap is_open (told_is z e) ∙ o) f

      past_high : i < offered (state_of z) q.routes → (r : Option ℕ) → narrow ≡ r → cond (is_open told) (Some 18) (high i) ≡ r
      past_high l r f =
          past_open r (not_met (leb (offered told (routes_in m n)) i) 13 narrow r (offered_is false (lt-leb (offered (state_of z) q.routes) i l)) f)

      pub route_short : i < offered (state_of z) q.routes → length before < n
          → Does circuit standing (lent (call.Route i (length before)) before (Err refusal.MemoryTooShort) before) standing
      route_short l k =
          refuses circuit standing (call.Route i (length before)) before refl refusal.MemoryTooShort
          (past_high l (Some 11) (met (ltb (length before) (length circuit)) 11 None (lt-ltb (length before) (length circuit) (omega (arith, circuit_length m n h.room)))))

      pub route_done : i < offered (state_of z) q.routes → n ≤ length before → (len : ℕ) (after : List ℕ) → len ≤ n → length after ≡ length before
          → drop len after ≡ drop len before → RowsAt (flow_in m n) (stage_of m n z) i (take len after)
          → Does circuit standing (lent (call.Route i (length before)) before (Ok (answer.Routed len)) after) standing
      route_done l k len after low same rest row =
          let fits : len ≤ length after = omega arith in
          obeys circuit standing (call.Route i (length before)) before refl (Ok (answer.Routed len)) after standing
          (past_high l None (not_met (ltb (length before) (length circuit)) 11 None None (le-ltb (length before) (length circuit) (omega (arith, circuit_length m n h.room))) refl)) (
            take len after,
            ap (λ n. Ok (answer.Routed n)) (sym (front_length len after fits)),
            wrote_front len before after fits same rest,
            subst (λ z. RowsAt (flow_in m n) (stage_of m n z) i (take len after)) (sym e) row,
            refl,
          )

  pub barred_short : (height : ℕ) → q.phase ≡ phase.Blocked height → height ≤ n
  barred_short height e = (staged_is (phase.Blocked height) e).1
