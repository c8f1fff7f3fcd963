-- What a step leaves.
use Rattle.std.proofs.Common.{◌≡◌, ℕ, ◌+◌, ◌*◌, ◌^◌, ◌<◌, ◌≤◌, true, not, ◌&&◌, ltb, List, [], length, get_or, take, drop, None, Ok, sym, refl, ap, ◌∙◌, subst, subst₂, ⊎_elim, zero-add, arith, length-drop, get_or-drop, get_or-take, ext_get_or}
use mathlib.Core.Path.{fun_ext}
use Rattle.std.specs.List.{AllByRecursion}
use Rattle.std.proofs.lemmas.List.FromFn.{length-map-range_with_len, get_or-map-range_with_len}
use Rattle.std.proofs.lemmas.Bool.{cases_lt, le-ltb}
use Rattle.routes.specs.Routes.{Ordered, Route}
use Rattle.routes.specs.Plans.{ones, Blocked}
use Rattle.routes.specs.Flows.{IsFlow, value}
use Rattle.routes.specs.Residuals.{border, Closed}
use Rattle.routes.proofs.Flows.{border_is_full_cut}
use Rattle.rows.specs.Rows.{Room, SameRows, Between, Only}
use Rattle.rows.specs.declared.rows.Rows.{Rows}
use Rattle.rows.specs.Held.{circuit_of, circuit_in, bars_of}
use Rattle.rows.proofs.Rooms.{room_after, same_then}
use Rattle.rows.proofs.HeldCircuit.{circuit_length}
use Rattle.flows.specs.Kept.{flow_in, routes_in}
use Rattle.flows.specs.Found.{marks}
use Rattle.flows.specs.Listing.{count}
use Rattle.flows.specs.Numbers.{Prepared}
use Rattle.flows.specs.Stacks.{Grown, numbered}
use Rattle.flows.proofs.Kept.{bars_same, circuit_kept, flow_kept, flows_kept, routes_kept}
use Rattle.flows.proofs.Grows.{routes_few}
use Rattle.graphs.specs.Meanings.{barred_graph}
use Rattle.graphs.specs.Outcomes.{PathFound, stack_list}
use Rattle.graphs.proofs.Fronts.{PastFront, off_front, only_search}
use Rattle.graphs.proofs.BarredOutcomes.{barred_decides}
use Rattle.search.specs.Rows.{stacked}
use Rattle.runs.specs.Events.{Event}
use Rattle.runs.specs.Law.{is_open}
use Rattle.runs.specs.Machine.{closed_by, Standing, Does, StepsTo, tells}
use Rattle.runs.specs.declared.calls.Stepped.{Stepped}
use Rattle.runs.specs.declared.calls.Call.TheVariants as call
use Rattle.runs.specs.declared.calls.Answer.TheVariants as answer
use Rattle.runs.specs.declared.calls.Stepped.TheVariants as stepped
use Rattle.plannings.specs.Ready.{state_of, stage_of, standing_of, Staged, Ready, Turned, bare}
use Rattle.plannings.specs.declared.kept.Kept.{Kept}
use Rattle.plannings.specs.declared.kept.Phase.TheVariants as phase
use Rattle.plannings.proofs.Frames.{pair_stays, circuit_stays, loaded_stays}
use Rattle.plannings.proofs.Counts.{at_most}
use Rattle.plannings.proofs.Faults.{not_met, obeys, front_length}
use Rattle.plannings.proofs.Answering.{told_phase}

-- a planning that is open stays ready where the front of its memory stays
module _ (n : ℕ) (m m' : List ℕ) (front : take (13 * n) m' ≡ take (13 * n) m) (room' : Room n m') (q : Kept) (h : Ready n m q) (from : ℕ) (o : q.phase ≡ phase.Open from) where
  only : Only PastFront n m m'
  only = only_search n m m' front

  pub circuit_front : circuit_of m' n ≡ circuit_of m n
  circuit_front = circuit_kept PastFront n m m' off_front only

  pub bars_front : bars_of m' n ≡ bars_of m n
  bars_front = bars_same PastFront n m m' (off_front 3 (omega arith)) only

  pub unblocked_front : (Blocked (circuit_of m n) (bars_of m n) → ⊥) → Blocked (circuit_of m' n) (bars_of m' n) → ⊥
  unblocked_front u = subst₂ (λ c b. Blocked c b → ⊥) (sym circuit_front) (sym bars_front) u

  pub ready_front : Ready n m' q
  ready_front =
      record {
        room = room';
        ordered = subst Ordered (sym circuit_front) h.ordered;
        loaded = loaded_stays PastFront n m m' (λ r l ne. off_front r (omega arith)) only h.room h.loaded;
        flows = flows_kept PastFront n m m' off_front only h.flows;
        routes = routes_kept PastFront n m m' off_front only ∙ h.routes;
        bars = ap (λ b. count b n) bars_front ∙ h.bars;
        staged = subst (λ z. Staged z n m' q.routes) (sym o)
            (λ l. unblocked_front (subst (λ z. Staged z n m q.routes) o h.staged l));
      }

  standing_front : standing_of m' n q ≡ standing_of m n q
  standing_front =
      λ i. record {
        bars = bars_front i;
        flow = flow_kept PastFront n m m' off_front only i;
        stage = (ap (λ z. stage_of m' n z) o ∙ sym (ap (λ z. stage_of m n z) o)) i;
      }

  pub turned_front : (e : Event) (m'' : List ℕ) (q' : Kept) → Turned n m' q e m'' q' → Turned n m q e m'' q'
  turned_front e m'' q' t =
      record {
        same = t.same ∙ circuit_front;
        does = subst₂ (λ c s. Does c s e (standing_of m'' n q')) circuit_front standing_front t.does;
        ready = t.ready;
      }

-- the same of rows that are searched
module _ (s t : Rows) (same : SameRows s t) (front : take (13 * s.wires) t.memory.now ≡ take (13 * s.wires) s.memory.now)
    (q : Kept) (h : Ready s.wires s.memory.now q) (from : ℕ) (o : q.phase ≡ phase.Open from) where
  pub ready_searched : Ready t.wires t.memory.now q
  ready_searched = subst (λ n. Ready n t.memory.now q) (sym same.wires) (ready_front s.wires s.memory.now t.memory.now front (room_after s t same) q h from o)

  pub unblocked_searched : (Blocked (circuit_in s) (bars_of s.memory.now s.wires) → ⊥) → Blocked (circuit_in t) (bars_of t.memory.now t.wires) → ⊥
  unblocked_searched u =
      subst (λ n. Blocked (circuit_of t.memory.now n) (bars_of t.memory.now n) → ⊥) (sym same.wires)
      (unblocked_front s.wires s.memory.now t.memory.now front (room_after s t same) q h from o u)

  -- and of what a call then leaves
  pub turned_searched : (e : Event) (r : Rows) (q' : Kept) → SameRows t r → Turned t.wires t.memory.now q e r.memory.now q'
      → SameRows s r × Turned s.wires s.memory.now q e r.memory.now q'
  turned_searched e r q' same' d = (
    same_then s t r same same',
    turned_front s.wires s.memory.now t.memory.now front (room_after s t same) q h from o e r.memory.now q'
        (subst (λ n. Turned n t.memory.now q e r.memory.now q') same.wires d),
  )

-- there is room for one route more
pub few_routes : (n : ℕ) (m : List ℕ) (q : Kept) → Ready n m q → (Blocked (circuit_of m n) (bars_of m n) → ⊥) → (routes_in m n ≤ n) × (q.routes ≤ 2 ^ 20)
few_routes n m q h u =
    let k : routes_in m n ≤ n = routes_few n m h.room h.ordered u h.flows in
    (k, omega (arith, h.routes, h.room.few))

-- a step that is obeyed
does_step : (n : ℕ) (m : List ℕ) (q : Kept) (from : ℕ) → q.phase ≡ phase.Open from → (b : Stepped) (t : Standing) → StepsTo (circuit_of m n) (standing_of m n q) b t
    → Does (circuit_of m n) (standing_of m n q) (bare call.Step (Ok (answer.Stepped b))) t
does_step n m q from o b t s =
    obeys (circuit_of m n) (standing_of m n q) call.Step [] refl (Ok (answer.Stepped b)) [] t
    (not_met (not (is_open (tells (standing_of m n q).stage))) 17 None None (ap (λ z. not (is_open z)) (told_phase m n q.phase ∙ ap state_of o)) refl) (b, refl, s, refl)

-- one route more
abbrev pub grown_kept : Kept → ℕ → Kept
grown_kept q next = record { phase = phase.Open next; routes = q.routes + 1; bars = q.bars }

module _ (n : ℕ) (m m' : List ℕ) (room' : Room n m') (q : Kept) (h : Ready n m q) (from : ℕ) (o : q.phase ≡ phase.Open from)
    (u : Blocked (circuit_of m n) (bars_of m n) → ⊥) (height next : ℕ) (g : Grown n height m m') where
  off : (r : ℕ) → r < 8 → (r ≡ 3 → ⊥) → Between 8 12 r → ⊥
  off r l ne b = omega (arith, b.0)

  same_circuit : circuit_of m' n ≡ circuit_of m n
  same_circuit = circuit_stays (Between 8 12) n m m' off g.rest

  same_bars : bars_of m' n ≡ bars_of m n
  same_bars = bars_same (Between 8 12) n m m' (λ b. omega (arith, b.0)) g.rest

  pub grown_turned : Turned n m q (bare call.Step (Ok (answer.Stepped stepped.Grown))) m' (grown_kept q next)
  grown_turned =
      record {
        same = same_circuit;
        does =
            does_step n m q from o stepped.Grown (standing_of m' n (grown_kept q next))
            (record {
              not_blocked = u;
              bars_are = same_bars;
              is_flow = subst (λ c. IsFlow c (bars_of m' n) ones (flow_in m' n)) same_circuit g.flows;
              one_more_route = subst (λ c. value c (flow_in m' n) ≡ routes_in m n + 1) same_circuit g.one_more;
              open_now = refl;
            });
        ready =
            record {
              room = room';
              ordered = subst Ordered (sym same_circuit) h.ordered;
              loaded = loaded_stays (Between 8 12) n m m' off g.rest h.room h.loaded;
              flows = g.flows;
              routes = omega (arith, g.one_more, h.routes);
              bars = ap (λ b. count b n) same_bars ∙ h.bars;
              staged = λ l. subst₂ (λ c b. Blocked c b → ⊥) (sym same_circuit) (sym same_bars) u;
            };
      }

-- closed
abbrev pub closed_kept : Kept → Kept
closed_kept q = record { phase = phase.Closed; routes = q.routes; bars = q.bars }

module _ (n : ℕ) (m m' : List ℕ) (room' : Room n m') (q : Kept) (h : Ready n m q) (from : ℕ) (o : q.phase ≡ phase.Open from)
    (closed : Closed (circuit_of m n) (bars_of m n) ones (flow_in m n) (marks m n)) (p : Prepared n m m') where
  off_rows : (r : ℕ) → r < 13 → Between 15 19 r → ⊥
  off_rows r l b = omega (arith, b.0)

  closed_circuit : circuit_of m' n ≡ circuit_of m n
  closed_circuit = circuit_kept (Between 15 19) n m m' off_rows p.rest

  closed_bars : bars_of m' n ≡ bars_of m n
  closed_bars = bars_same (Between 15 19) n m m' (off_rows 3 (omega arith)) p.rest

  same_marks : marks m' n ≡ marks m n
  same_marks =
      fun_ext (λ a. ⊎_elim
      (λ (l : numbered a < 2 * n). ap (λ k. ltb (numbered a) (2 * n) && ltb 0 k)
      (pair_stays (Between 15 19) n m m' p.rest 13 (λ b. omega (arith, b.0)) (λ b. omega (arith, b.0)) (numbered a) l))
      (λ (l : 2 * n ≤ numbered a). ap (λ b. b && ltb 0 (get_or m' (13 * n + numbered a) 0)) (le-ltb (numbered a) (2 * n) l)
      ∙ sym (ap (λ b. b && ltb 0 (get_or m (13 * n + numbered a) 0)) (le-ltb (numbered a) (2 * n) l)))
      (cases_lt (numbered a) (2 * n)))

  as_many : count (border (marks m n)) n ≡ q.routes
  as_many =
      subst (λ k. count (border (marks m n)) k ≡ q.routes) (circuit_length m n h.room)
      ((border_is_full_cut (circuit_of m n) h.ordered (bars_of m n) ones (flow_in m n) h.flows (marks m n) closed).2 ∙ h.routes)

  pub closed_turned : Turned n m q (bare call.Step (Ok (answer.Stepped stepped.Closed))) m' (closed_kept q)
  closed_turned =
      record {
        same = closed_circuit;
        does =
            does_step n m q from o stepped.Closed (standing_of m' n (closed_kept q))
            (record {
              mark = marks m n;
              closed = closed;
              now_is = λ i. record { bars = closed_bars i; flow = flow_kept (Between 15 19) n m m' off_rows p.rest i; stage = closed_by (same_marks i) };
            });
        ready =
            record {
              room = room';
              ordered = subst Ordered (sym closed_circuit) h.ordered;
              loaded = loaded_stays (Between 15 19) n m m' (λ r l ne. off_rows r (omega arith)) p.rest h.room h.loaded;
              flows = flows_kept (Between 15 19) n m m' off_rows p.rest h.flows;
              routes = routes_kept (Between 15 19) n m m' off_rows p.rest ∙ h.routes;
              bars = ap (λ b. count b n) closed_bars ∙ h.bars;
              staged = (ap (λ k. count (border k) n) same_marks ∙ as_many, p.ready);
            };
      }

-- blocked
abbrev pub blocked_kept : Kept → ℕ → Kept
blocked_kept q height = record { phase = phase.Blocked height; routes = q.routes; bars = q.bars }

module _ (n : ℕ) (m m' : List ℕ) (room' : Room n m') (q : Kept) (h : Ready n m q) (from : ℕ) (o : q.phase ≡ phase.Open from) (none : q.routes ≡ 0)
    (height : ℕ) (p : PathFound (barred_graph n) m m' height) where
  ready_after : Ready n m' q
  ready_after = ready_front n m m' p.rows.front room' q h from o

  low : height ≤ n
  low = at_most n height (stacked (13 * n) n m') p.reached.below p.reached.path.apart

  abbrev row : List ℕ
  row = take height (drop (14 * n) m')

  fits : height ≤ length (drop (14 * n) m')
  fits = omega (arith, low, length-drop (14 * n) m', ready_after.room.rows)

  row_is : stack_list n m' height ≡ row
  row_is =
      ext_get_or 0 (stack_list n m' height) row
      (length-map-range_with_len (stacked (13 * n) n m') 0 height ∙ sym (front_length height (drop (14 * n) m') fits))
      (λ i l. let k : i < height = omega (arith, length-map-range_with_len (stacked (13 * n) n m') 0 height) in
      get_or-map-range_with_len (stacked (13 * n) n m') 0 height i i 0 k (zero-add i)
      ∙ ap (λ j. get_or m' j 0) (there i)
      ∙ sym (get_or-take height (drop (14 * n) m') i 0 k ∙ get_or-drop (14 * n) m' i 0))
    where
      there : (i : ℕ) → 13 * n + n + i ≡ 14 * n + i
      there i = omega arith

  found : Route (circuit_of m n) row × AllByRecursion (λ w. bars_of m n w ≡ true) row
  found =
      let d = (barred_decides (circuit_of m n) n m m' h.ordered (circuit_length m n h.room) h.loaded).0 height p in
      subst (λ xs. Route (circuit_of m n) xs × AllByRecursion (λ w. bars_of m n w ≡ true) xs) row_is
      (d.0, subst (λ b. AllByRecursion (λ w. b w ≡ true) (stack_list n m' height)) (bars_front n m m' p.rows.front room' q h from o) d.1)

  pub blocked_turned : Turned n m q (bare call.Step (Ok (answer.Stepped stepped.Blocked))) m' (blocked_kept q height)
  blocked_turned =
      record {
        same = circuit_front n m m' p.rows.front room' q h from o;
        does =
            does_step n m q from o stepped.Blocked (standing_of m' n (blocked_kept q height))
            (record {
              row = row;
              route = found.0;
              all_barred = found.1;
              now_is = λ i. record {
                bars = bars_front n m m' p.rows.front room' q h from o i;
                flow = flow_kept PastFront n m m' off_front (only_search n m m' p.rows.front) i;
                stage = stage_of m' n (phase.Blocked height);
              };
            });
        ready =
            record {
              room = ready_after.room;
              ordered = ready_after.ordered;
              loaded = ready_after.loaded;
              flows = ready_after.flows;
              routes = ready_after.routes;
              bars = ready_after.bars;
              staged = (none, low);
            };
      }
