-- A bar is set or lifted.
use Rattle.std.proofs.Common.{◌≡◌, ℕ, ◌+◌, ◌-◌, ◌^◌, ◌<◌, ◌≤◌, Bool, true, false, cond, not, ◌&&◌, ◌||◌, eqb, ltb, ◌⊎◌, List, [], get_or, Some, None, Ok, Err, sym, refl, ap, ◌∙◌, subst, inl, inr, ⊎_elim, arith}
use mathlib.Core.Path.{fun_ext}
use Rattle.std.proofs.lemmas.Bool.{cases_lt, eq-eqb, ne_eqb}
use Rattle.circuits.specs.Levels.{produced_at}
use Rattle.circuits.specs.declared.answer.Refusal.TheVariants as refusal
use Rattle.routes.specs.Routes.{Ordered, Wires}
use Rattle.routes.specs.Plans.{ones}
use Rattle.routes.specs.Sums.{one_if}
use Rattle.routes.proofs.Sums.{term_le}
use Rattle.routes.proofs.Wires.{not_both}
use Rattle.routes.specs.Flows.{IsFlow, value}
use Rattle.rows.specs.Rows.{Room, cell, written, Between, Only, SameRows}
use Rattle.rows.specs.Held.{circuit_of, bars_of}
use Rattle.rows.proofs.Cells.{cell_here, only_then, only_written, only_wider}
use Rattle.rows.proofs.Rooms.{room_after}
use Rattle.rows.specs.Fed.{Loaded}
use Rattle.flows.specs.Kept.{flow_in}
use Rattle.flows.specs.Listing.{count}
use Rattle.flows.specs.Stacks.{Emptied}
use Rattle.runs.specs.Events.{Event, set_or_lifted}
use Rattle.runs.specs.Machine.{Begun, Does}
use Rattle.runs.specs.declared.calls.Call.TheVariants as call
use Rattle.runs.specs.declared.calls.Answer.TheVariants as answer
use Rattle.plannings.specs.Ready.{standing_of, opened_kept, Ready, Turned, bare}
use Rattle.plannings.specs.Lending.{IsReady, Turns}
use Rattle.plannings.specs.declared.kept.Kept.{Kept}
use Rattle.plannings.specs.declared.lent.Lent.{Lent}
use Rattle.plannings.proofs.Frames.{produced_past, circuit_stays, loaded_stays}
use Rattle.plannings.proofs.Faults.{met, not_met, refuses, obeys}
use Rattle.plannings.proofs.Counts.{count_few, count_more}

abbrev Changing : ℕ → Type 0
Changing r = (r ≡ 3) ⊎ Between 8 12 r

module _ (n : ℕ) (m m' : List ℕ) (w f : ℕ) (room : Room n m) (l : w < n) (room' : Room n m') (h : Emptied n (written m n 3 w f) m') where
  only : Only Changing n m m'
  only =
      only_then Changing n m (written m n 3 w f) m' (only_written Changing n m 3 w f l (inl refl))
      (only_wider Changing n (Between 8 12) (written m n 3 w f) m' (λ r. inr) h.rest)

  off : (r : ℕ) → r < 8 → (r ≡ 3 → ⊥) → Changing r → ⊥
  off r k ne = ⊎_elim ne (λ b. omega (arith, b.0))

  pub bars_after : (v : ℕ) → bars_of m' n v ≡ cond (eqb v w) (ltb 0 f) (bars_of m n v)
  bars_after v =
      ap (λ xs. ltb 0 (get_or xs v 0)) (h.rest 3 (λ b. omega (arith, b.0)))
      ∙ ap (ltb 0) (cell_here m n 3 w f room (omega arith) l v)
      ∙ inside (eqb v w)
    where
      inside : (b : Bool) → ltb 0 (cond b f (cell m n 3 v)) ≡ cond b (ltb 0 f) (bars_of m n v)
      inside true = refl
      inside false = refl

  pub same_circuit : circuit_of m' n ≡ circuit_of m n
  same_circuit = circuit_stays Changing n m m' off only

  pub begun : (bars : Wires) (b : ℕ) → bars_of m' n ≡ bars → Begun (circuit_of m n) bars (standing_of m' n (opened_kept b))
  begun bars b e =
      record {
        bars_are = e;
        is_flow = subst (λ c. IsFlow c (bars_of m' n) ones (flow_in m' n)) same_circuit h.flows;
        no_routes = subst (λ c. value c (flow_in m' n) ≡ 0) same_circuit h.none;
        open_now = refl;
      }

  pub ready_open : (b : ℕ) → Ordered (circuit_of m n) → Loaded (circuit_of m n) n m → count (bars_of m' n) n ≡ b → Ready n m' (opened_kept b)
  ready_open b ordered loaded e =
      record {
        room = room';
        ordered = subst Ordered (sym same_circuit) ordered;
        loaded = loaded_stays Changing n m m' off only room loaded;
        flows = h.flows;
        routes = h.none;
        bars = e;
        staged = λ k. absurd (omega arith);
      }

-- a bar set, by what was read: not barred before, one more after
module _ (n : ℕ) (m m' : List ℕ) (w : ℕ) (room : Room n m) (l : w < n) (room' : Room n m') (h : Emptied n (written m n 3 w 1) m') where
  after_set : (v : ℕ) → bars_of m' n v ≡ cond (eqb v w) true (bars_of m n v)
  after_set v = bars_after n m m' w 1 room l room' h v

  pub set_bars : bars_of m' n ≡ set_or_lifted (call.Bar w) (bars_of m n)
  set_bars = fun_ext (λ v. after_set v ∙ joined (eqb v w) (bars_of m n v))
    where
      joined : (a b : Bool) → cond a true b ≡ (a || b)
      joined true b = refl
      joined false b = refl

  pub set_count : bars_of m n w ≡ false → count (bars_of m' n) n ≡ count (bars_of m n) n + 1
  set_count e =
      count_more (bars_of m n) (bars_of m' n) w e
      (after_set w ∙ ap (λ b. cond b true (bars_of m n w)) (eq-eqb w w refl))
      (λ v ne. after_set v ∙ ap (λ b. cond b true (bars_of m n v)) (ne_eqb v w ne)) n l

-- a bar lifted
module _ (n : ℕ) (m m' : List ℕ) (w : ℕ) (room : Room n m) (l : w < n) (room' : Room n m') (h : Emptied n (written m n 3 w 0) m') where
  after_lift : (v : ℕ) → bars_of m' n v ≡ cond (eqb v w) false (bars_of m n v)
  after_lift v = bars_after n m m' w 0 room l room' h v

  pub lifted_bars : bars_of m' n ≡ set_or_lifted (call.Unbar w) (bars_of m n)
  lifted_bars = fun_ext (λ v. after_lift v ∙ joined (eqb v w) (bars_of m n v))
    where
      joined : (a b : Bool) → cond a false b ≡ (not a && b)
      joined true b = refl
      joined false b = refl

  pub lifted_count : bars_of m n w ≡ true → count (bars_of m n) n ≡ count (bars_of m' n) n + 1
  lifted_count e =
      count_more (bars_of m' n) (bars_of m n) w
      (after_lift w ∙ ap (λ b. cond b false (bars_of m n w)) (eq-eqb w w refl))
      e (λ v ne. sym (after_lift v ∙ ap (λ b. cond b false (bars_of m n v)) (ne_eqb v w ne))) n l

-- the call bar, and the call unbar, in each of its endings
module _ (p : Lent) (h : IsReady p) (w : ℕ) where
  abbrev n : ℕ
  n = p.rows.wires

  abbrev m : List ℕ
  m = p.rows.memory.now

  abbrev q : Kept
  q = p.kept

  -- a refusal alters nothing
  unaltered : {e : Event} → Does (circuit_of m n) (standing_of m n q) e (standing_of m n q) → Turns p e p
  unaltered d = record { rows = record { wires = refl; place = refl; long = refl }; turned = record { same = refl; does = d; ready = h } }

  pub wire_in : produced_at (circuit_of m n) w ≡ true → w < n
  wire_in e = ⊎_elim (λ l. l) (λ l. not_both e (produced_past n m h.room w l)) (cases_lt w n)

  pub bar_unknown : produced_at (circuit_of m n) w ≡ false → Turns p (bare (call.Bar w) (Err refusal.BadRank)) p
  bar_unknown e =
      unaltered (refuses (circuit_of m n) (standing_of m n q) (call.Bar w) [] refl refusal.BadRank
      (met (not (produced_at (circuit_of m n) w)) 12 (cond (bars_of m n w) (Some 15) None) (ap not e)))

  pub unbar_unknown : produced_at (circuit_of m n) w ≡ false → Turns p (bare (call.Unbar w) (Err refusal.BadRank)) p
  unbar_unknown e =
      unaltered (refuses (circuit_of m n) (standing_of m n q) (call.Unbar w) [] refl refusal.BadRank
      (met (not (produced_at (circuit_of m n) w)) 12 (cond (not (bars_of m n w)) (Some 16) None) (ap not e)))

  pub bar_again : produced_at (circuit_of m n) w ≡ true → bars_of m n w ≡ true → Turns p (bare (call.Bar w) (Err refusal.AlreadyBarred)) p
  bar_again e b =
      unaltered (refuses (circuit_of m n) (standing_of m n q) (call.Bar w) [] refl refusal.AlreadyBarred
      (not_met (not (produced_at (circuit_of m n) w)) 12 (cond (bars_of m n w) (Some 15) None) (Some 15) (ap not e) (met (bars_of m n w) 15 None b)))

  pub unbar_again : produced_at (circuit_of m n) w ≡ true → bars_of m n w ≡ false → Turns p (bare (call.Unbar w) (Err refusal.NotBarred)) p
  unbar_again e b =
      unaltered (refuses (circuit_of m n) (standing_of m n q) (call.Unbar w) [] refl refusal.NotBarred
      (not_met (not (produced_at (circuit_of m n) w)) 12 (cond (not (bars_of m n w)) (Some 16) None) (Some 16) (ap not e) (met (not (bars_of m n w)) 16 None (ap not b))))

  module _ (p' : Lent) (same : SameRows p.rows p'.rows) (e : produced_at (circuit_of m n) w ≡ true) where
    abbrev m' : List ℕ
    m' = p'.rows.memory.now

    room' : Room n m'
    room' = room_after p.rows p'.rows same

    turns : (k : Kept) (ev : Event) → p'.kept ≡ k → Turned n m q ev m' k → Turns p ev p'
    turns k ev is t = record { rows = same; turned = subst (λ k. Turned n m q ev m' k) (sym is) t }

    pub bar_done : bars_of m n w ≡ false → Emptied n (written m n 3 w 1) m' → p'.kept ≡ opened_kept (q.bars + 1) → Turns p (bare (call.Bar w) (Ok answer.Done)) p'
    bar_done b d kept =
        let l : w < n = wire_in e in
        turns (opened_kept (q.bars + 1)) (bare (call.Bar w) (Ok answer.Done)) kept
        record {
          same = same_circuit n m m' w 1 h.room l room' d;
          does =
              obeys (circuit_of m n) (standing_of m n q) (call.Bar w) [] refl (Ok answer.Done) [] (standing_of m' n (opened_kept (q.bars + 1)))
              (not_met (not (produced_at (circuit_of m n) w)) 12 (cond (bars_of m n w) (Some 15) None) None (ap not e) (not_met (bars_of m n w) 15 None None b refl))
              (refl, refl, begun n m m' w 1 h.room l room' d (set_or_lifted (call.Bar w) (bars_of m n)) (q.bars + 1) (set_bars n m m' w h.room l room' d));
          ready = ready_open n m m' w 1 h.room l room' d (q.bars + 1) h.ordered h.loaded (omega (arith, set_count n m m' w h.room l room' d b, h.bars));
        }

    pub unbar_done : bars_of m n w ≡ true → Emptied n (written m n 3 w 0) m' → p'.kept ≡ opened_kept (q.bars - 1) → Turns p (bare (call.Unbar w) (Ok answer.Done)) p'
    unbar_done b d kept =
        let l : w < n = wire_in e in
        turns (opened_kept (q.bars - 1)) (bare (call.Unbar w) (Ok answer.Done)) kept
        record {
          same = same_circuit n m m' w 0 h.room l room' d;
          does =
              obeys (circuit_of m n) (standing_of m n q) (call.Unbar w) [] refl (Ok answer.Done) [] (standing_of m' n (opened_kept (q.bars - 1)))
              (not_met (not (produced_at (circuit_of m n) w)) 12 (cond (not (bars_of m n w)) (Some 16) None) None (ap not e) (not_met (not (bars_of m n w)) 16 None None (ap not b) refl))
              (refl, refl, begun n m m' w 0 h.room l room' d (set_or_lifted (call.Unbar w) (bars_of m n)) (q.bars - 1) (lifted_bars n m m' w h.room l room' d));
          ready = ready_open n m m' w 0 h.room l room' d (q.bars - 1) h.ordered h.loaded (omega (arith, lifted_count n m m' w h.room l room' d b, h.bars));
        }

  -- one bar more can be counted, and one that is set was
  pub bars_few : q.bars ≤ 2 ^ 20
  bars_few = omega (arith, h.bars, count_few (bars_of m n) n, h.room.few)

  pub some_bar : w < n → bars_of m n w ≡ true → 1 ≤ q.bars
  some_bar l b = omega (arith, h.bars, term_le (λ v. one_if (bars_of m n v)) n w l, ap one_if b)
