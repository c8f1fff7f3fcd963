-- A plan is shown to be the earliest by rows and a list of places: a test that antt computes.
use Rattle.std.proofs.Common.{◌≡◌, ℕ, ◌+◌, ◌<◌, ◌≤◌, Bool, true, false, cond, not, ◌&&◌, ◌||◌, eqb, ltb, leb, ◌⊎◌, List, [], ◌∷◌, length, sym, refl, ap, ◌∙◌, subst, inl, inr, ⊎_elim, arith}
use Rattle.std.proofs.lemmas.Bool.{true≢false, cases_lt, and_parts, eqb-true, ltb-true, le-ltb, leb-true, or_cases, not-true, cond-false}
use Rattle.std.specs.List.{AllByRecursion}
use Rattle.circuits.specs.Levels.{has, produced_at, plan_fits}
use Rattle.circuits.specs.TableLaws.{feeds_tells}
use Rattle.circuits.specs.Tables.{feeds}
use Rattle.circuits.specs.declared.making.Making.{Making}
use Rattle.routes.specs.Routes.{at, Ordered, Wires}
use Rattle.routes.specs.Sums.{sum_of, ranks, one_if}
use Rattle.routes.specs.Ranks.{Ascending}
use Rattle.routes.specs.Plans.{wires_of, ones, EarliestSmallest}
use Rattle.routes.specs.Standing.{passing}
use Rattle.routes.specs.Flows.{over, Flow, IsFlow}
use Rattle.routes.specs.Residuals.{border, Place, Step, Reached, Closed, entry, exit, at_product, by_step}
use Rattle.routes.proofs.Sums.{sum_none, all_of}
use Rattle.routes.proofs.Wires.{product_in, produced_in, operand_lower, produced_is, not_both, all_has, else_false}
use Rattle.routes.proofs.Ranks.{plans_are_ascending}
use Rattle.routes.proofs.Tests.{all_below, ends?, all_below_at, product?, passes?, product_from, product_true, passes_from, ends_from, ends_true, same?, among, rank_of, same_from, some_place, step?, begins?, step_true, step_in, begins_reached, from_some}
use Rattle.routes.proofs.Plans.{border_is_the_earliest}

abbrev ordered? : List Making → Bool
ordered? c = all_below (length c) (λ w. feeds w (at c w))

ordered_from : (c : List Making) → ordered? c ≡ true → Ordered c
ordered_from c h w l = feeds_tells w (at c w) (all_below_at (length c) (λ w. feeds w (at c w)) h w l)

-- the flow of a list of rows, below n
abbrev firsts : List ℕ → ℕ → ℕ
firsts [] w = 0
firsts (u ∷ us) w = one_if (eqb w u)

abbrev pairs_from : ℕ → List ℕ → ℕ → ℕ → ℕ
pairs_from u [] v w = 0
pairs_from u (t ∷ ts) v w = one_if (eqb v u && eqb w t) + pairs_from t ts v w

abbrev pairs : List ℕ → ℕ → ℕ → ℕ
pairs [] v w = 0
pairs (u ∷ us) v w = pairs_from u us v w

abbrev lasts_from : ℕ → List ℕ → ℕ → ℕ
lasts_from u [] w = one_if (eqb w u)
lasts_from u (t ∷ ts) w = lasts_from t ts w

abbrev lasts : List ℕ → ℕ → ℕ
lasts [] w = 0
lasts (u ∷ us) w = lasts_from u us w

abbrev flow_from : ℕ → List (List ℕ) → Flow
flow_from n rs =
    record {
      start = λ w. cond (ltb w n) (sum_of (λ r. firsts r w) rs) 0;
      along = λ v w. cond (ltb v n && ltb w n) (sum_of (λ r. pairs r v w) rs) 0;
      finish = λ w. cond (ltb w n) (sum_of (λ r. lasts r w) rs) 0;
      through = λ w. cond (ltb w n) (passing rs w) 0;
    }

abbrev if_some : ℕ → Bool → Bool
if_some k b = leb k 0 || b

if_some_from : (k : ℕ) (b : Bool) → if_some k b ≡ true → 0 < k → b ≡ true
if_some_from k b h l = ⊎_elim (λ e. absurd (omega (arith, leb-true k 0 e))) (λ e. e) (or_cases (leb k 0) b h)

abbrev flow_at? : List Making → Wires → (ℕ → ℕ) → Flow → ℕ → Bool
flow_at? c barred price x w =
    if_some (x.start w) (product? c w)
    && (if_some (x.finish w) (ends? c w)
    && (eqb (x.start w + over c (λ v. x.along v w)) (x.through w)
    && (eqb (over c (λ u. x.along w u) + x.finish w) (x.through w)
    && ((barred w || leb (x.through w) (price w))
    && all_below (length c) (λ v. if_some (x.along v w) (passes? c w v))))))

abbrev flow? : List Making → Wires → (ℕ → ℕ) → Flow → Bool
flow? c barred price x = all_below (length c) (flow_at? c barred price x)

and_six : (a b c d e f : Bool) → (a && (b && (c && (d && (e && f))))) ≡ true
    → (a ≡ true) × (b ≡ true) × (c ≡ true) × (d ≡ true) × (e ≡ true) × (f ≡ true)
and_six a b c d e f h =
    let h1 : (a ≡ true) × ((b && (c && (d && (e && f)))) ≡ true) = and_parts a (b && (c && (d && (e && f)))) h in
    let h2 : (b ≡ true) × ((c && (d && (e && f))) ≡ true) = and_parts b (c && (d && (e && f))) h1.1 in
    let h3 : (c ≡ true) × ((d && (e && f)) ≡ true) = and_parts c (d && (e && f)) h2.1 in
    let h4 : (d ≡ true) × ((e && f) ≡ true) = and_parts d (e && f) h3.1 in
    let h5 : (e ≡ true) × (f ≡ true) = and_parts e f h4.1 in
    (h1.0, h2.0, h3.0, h4.0, h5.0, h5.1)

module _ (c : List Making) (barred : Wires) (price : ℕ → ℕ) (rs : List (List ℕ)) where
  x : Flow
  x = flow_from (length c) rs

  flow_from_test : flow? c barred price (flow_from (length c) rs) ≡ true → IsFlow c barred price x
  unfolding x
  flow_from_test ok =
      record {
        from_products = λ w l. product_from c w (if_some_from (x.start w) (product? c w) (tests w (within w (x.start w) (λ k. cond-false (ltb w n) (sum_of (λ r. firsts r w) rs) 0 (le-ltb w n k)) l)).0 l);
        passed_on = λ v w l. passes_from c w v (if_some_from (x.along v w) (passes? c w v)
            (all_below_at n (λ v. if_some (x.along v w) (passes? c w v)) (tests w (both v w l).1).5 v (both v w l).0) l);
        to_products = λ w l. ends_from c w (if_some_from (x.finish w) (ends? c w) (tests w (within w (x.finish w) (λ k. cond-false (ltb w n) (sum_of (λ r. lasts r w) rs) 0 (le-ltb w n k)) l)).1 l);
        enters = λ w. ⊎_elim (λ l. eqb-true (x.start w + over c (λ v. x.along v w)) (x.through w) (tests w l).2)
            (λ l. omega (
              arith,
              cond-false (ltb w n) (sum_of (λ r. firsts r w) rs) 0 (le-ltb w n l),
              cond-false (ltb w n) (passing rs w) 0 (le-ltb w n l),
              sum_none (λ v. x.along v w) (ranks n) (all_of (λ v. past v w (inr l)) (ranks n)),
            )) (cases_lt w n);
        leaves = λ w. ⊎_elim (λ l. eqb-true (over c (λ u. x.along w u) + x.finish w) (x.through w) (tests w l).3)
            (λ l. omega (
              arith,
              cond-false (ltb w n) (sum_of (λ r. lasts r w) rs) 0 (le-ltb w n l),
              cond-false (ltb w n) (passing rs w) 0 (le-ltb w n l),
              sum_none (λ u. x.along w u) (ranks n) (all_of (λ u. past w u (inl l)) (ranks n)),
            )) (cases_lt w n);
        fits = λ w u. ⊎_elim (λ l. ⊎_elim (λ h. not_both h u) (λ h. leb-true (x.through w) (price w) h) (or_cases (barred w) (leb (x.through w) (price w)) (tests w l).4))
            (λ l. omega (arith, cond-false (ltb w n) (passing rs w) 0 (le-ltb w n l))) (cases_lt w n);
      }
    where
      n : ℕ
      n = length c

      past : (v w : ℕ) → (n ≤ v) ⊎ (n ≤ w) → x.along v w ≡ 0
      past v w h = cond-false (ltb v n && ltb w n) (sum_of (λ r. pairs r v w) rs) 0 (⊎_elim (λ l. ap (λ b. b && ltb w n) (le-ltb v n l)) (λ l. right (ltb v n) (le-ltb w n l)) h)
        where
          right : (a : Bool) {b : Bool} → b ≡ false → (a && b) ≡ false
          right true h = h
          right false h = refl

      within : (w k : ℕ) → (n ≤ w → k ≡ 0) → 0 < k → w < n
      within w k z l = ⊎_elim (λ h. h) (λ h. absurd (omega (arith, z h))) (cases_lt w n)

      both : (v w : ℕ) → 0 < x.along v w → (v < n) × (w < n)
      both v w l = (within v (x.along v w) (λ k. past v w (inl k)) l, within w (x.along v w) (λ k. past v w (inr k)) l)

      tests : (w : ℕ) → w < n
          → (if_some (x.start w) (product? c w) ≡ true) × (if_some (x.finish w) (ends? c w) ≡ true)
          × (eqb (x.start w + over c (λ v. x.along v w)) (x.through w) ≡ true) × (eqb (over c (λ u. x.along w u) + x.finish w) (x.through w) ≡ true)
          × ((barred w || leb (x.through w) (price w)) ≡ true) × (all_below n (λ v. if_some (x.along v w) (passes? c w v)) ≡ true)
      tests w l =
          and_six (if_some (x.start w) (product? c w)) (if_some (x.finish w) (ends? c w))
          (eqb (x.start w + over c (λ v. x.along v w)) (x.through w)) (eqb (over c (λ u. x.along w u) + x.finish w) (x.through w))
          (barred w || leb (x.through w) (price w)) (all_below n (λ v. if_some (x.along v w) (passes? c w v)))
          (all_below_at n (flow_at? c barred price x) ok w l)

abbrev all_places : List Place → (Place → Bool) → Bool
all_places [] f = true
all_places (a ∷ as') f = f a && all_places as' f

all_places_at : (ms : List Place) (f : Place → Bool) → all_places ms f ≡ true → (a : Place) → among ms a ≡ true → f a ≡ true
all_places_at [] f h a m = absurd (true≢false (sym m))
all_places_at (b ∷ bs) f h a m =
    let t : (f b ≡ true) × (all_places bs f ≡ true) = and_parts (f b) (all_places bs f) h in
    ⊎_elim (λ e. ap f (same_from a b e) ∙ t.0) (λ k. all_places_at bs f t.1 a k) (or_cases (same? a b) (among bs a) m)

abbrev implies : Bool → Bool → Bool
implies a b = not a || b

implies_from : (a b : Bool) → implies a b ≡ true → a ≡ true → b ≡ true
implies_from a b h k = ⊎_elim (λ n. not_both k (not-true a n)) (λ e. e) (or_cases (not a) b h)

-- each place, the newest first, is the entry of a product or a step from a place after it in the list
abbrev found? : List Making → Wires → (ℕ → ℕ) → Flow → List Place → Bool
found? c barred price x [] = true
found? c barred price x (b ∷ bs) = (begins? c b || some_place bs (λ a. step? c barred price x a b)) && found? c barred price x bs

abbrev closed_at? : List Making → Wires → (ℕ → ℕ) → Flow → List Place → Place → Bool
closed_at? c barred price x ms a =
    ltb (rank_of a) (length c) && all_below (length c) (λ w.
    implies (step? c barred price x a (entry w)) (among ms (entry w)) && implies (step? c barred price x a (exit w)) (among ms (exit w)))

abbrev closed? : List Making → Wires → (ℕ → ℕ) → Flow → List Place → Bool
closed? c barred price x ms =
    all_places ms (closed_at? c barred price x ms)
    && all_below (length c) (λ w. implies (product? c w) (among ms (entry w)) && implies (ends? c w) (not (among ms (exit w))))

module _ (c : List Making) (ordered : Ordered c) (barred : Wires) (price : ℕ → ℕ) (x : Flow) (flow : IsFlow c barred price x) (ms : List Place) where
  found_reached : (bs : List Place) → found? c barred price x bs ≡ true → (a : Place) → among bs a ≡ true → Reached c barred price x a
  found_reached [] h a m = absurd (true≢false (sym m))
  found_reached (b ∷ bs) h a m =
      let t : ((begins? c b || some_place bs (λ a. step? c barred price x a b)) ≡ true) × (found? c barred price x bs ≡ true) =
      and_parts (begins? c b || some_place bs (λ a. step? c barred price x a b)) (found? c barred price x bs) h in
      let rest : (a : Place) → among bs a ≡ true → Reached c barred price x a = found_reached bs t.1 in
      ⊎_elim
      (λ e. subst (Reached c barred price x) (sym (same_from a b e))
      (⊎_elim (begins_reached c ordered barred price x flow b) (λ k. from_some c ordered barred price x flow bs b k rest) (or_cases (begins? c b) (some_place bs (λ a. step? c barred price x a b)) t.0)))
      (rest a) (or_cases (same? a b) (among bs a) m)

  module _ (found : found? c barred price x ms ≡ true) (shut : closed? c barred price x ms ≡ true) where
    parts : (all_places ms (closed_at? c barred price x ms) ≡ true)
        × (all_below (length c) (λ w. implies (product? c w) (among ms (entry w)) && implies (ends? c w) (not (among ms (exit w)))) ≡ true)
    parts = and_parts (all_places ms (closed_at? c barred price x ms))
        (all_below (length c) (λ w. implies (product? c w) (among ms (entry w)) && implies (ends? c w) (not (among ms (exit w))))) shut

    at_wire : (w : ℕ) → w < length c → (implies (product? c w) (among ms (entry w)) ≡ true) × (implies (ends? c w) (not (among ms (exit w))) ≡ true)
    at_wire w l =
        and_parts (implies (product? c w) (among ms (entry w))) (implies (ends? c w) (not (among ms (exit w))))
        (all_below_at (length c) (λ w. implies (product? c w) (among ms (entry w)) && implies (ends? c w) (not (among ms (exit w)))) parts.1 w l)

    at_place : (a : Place) → among ms a ≡ true → (rank_of a < length c)
        × ((w : ℕ) → w < length c → (implies (step? c barred price x a (entry w)) (among ms (entry w)) ≡ true) × (implies (step? c barred price x a (exit w)) (among ms (exit w)) ≡ true))
    at_place a m =
        let f : ℕ → Bool = λ w. implies (step? c barred price x a (entry w)) (among ms (entry w)) && implies (step? c barred price x a (exit w)) (among ms (exit w)) in
        let t : (ltb (rank_of a) (length c) ≡ true) × (all_below (length c) f ≡ true) =
        and_parts (ltb (rank_of a) (length c)) (all_below (length c) f) (all_places_at ms (closed_at? c barred price x ms) parts.0 a m) in (
          ltb-true (rank_of a) (length c) t.0,
          λ w l. and_parts (implies (step? c barred price x a (entry w)) (among ms (entry w))) (implies (step? c barred price x a (exit w)) (among ms (exit w)))
              (all_below_at (length c) f t.1 w l),
        )

    among_step : (a b : Place) → among ms a ≡ true → Step c barred price x a b → among ms b ≡ true
    among_step a (entry w) m s =
        implies_from (step? c barred price x a (entry w)) (among ms (entry w)) ((at_place a m).1 w (step_in c ordered barred price x flow s (at_place a m).0)).0 (step_true c ordered barred price x flow s)
    among_step a (exit w) m s =
        implies_from (step? c barred price x a (exit w)) (among ms (exit w)) ((at_place a m).1 w (step_in c ordered barred price x flow s (at_place a m).0)).1 (step_true c ordered barred price x flow s)

    reached_among : {a : Place} → Reached c barred price x a → among ms a ≡ true
    reached_among (at_product {w = w} f) =
        implies_from (product? c w) (among ms (entry w)) (at_wire w (product_in c w f)).0 (product_true c w f)
    reached_among (by_step {a = a} {b = b} r s) = among_step a b (reached_among r) s

    list_closed : Closed c barred price x (among ms)
    list_closed =
        record {
          exact = λ a. (found_reached ms found a, λ r. reached_among r);
          ended = λ w e.
              let l : w < e.0 = operand_lower c ordered e.0 w e.2 in
              let k : e.0 < length c = product_in c e.0 e.1 in
              not-true (among ms (exit w)) (implies_from (ends? c w) (not (among ms (exit w))) (at_wire w (omega arith)).1 (ends_true c w e));
        }

abbrev same_test : Bool → Bool → Bool
same_test true b = b
same_test false b = not b

same_test_from : (a b : Bool) → same_test a b ≡ true → a ≡ b
same_test_from true b h = sym h
same_test_from false b h = sym (not-true b h)

-- the rows are a flow, the places are what steps reach, none of them ends a route, and the plan is their border
abbrev certified? : List Making → List ℕ → List ℕ → List (List ℕ) → List Place → Bool
certified? c bars plan rs ms =
    ordered? c
    && (flow? c (wires_of bars) ones (flow_from (length c) rs)
    && (found? c (wires_of bars) ones (flow_from (length c) rs) ms
    && (closed? c (wires_of bars) ones (flow_from (length c) rs) ms
    && (plan_fits c 0 plan
    && all_below (length c) (λ w. same_test (has w plan) (border (among ms) w))))))

pub certified_earliest : (m : List Making) (bars plan : List ℕ) (rs : List (List ℕ)) (ms : List Place) → certified? m bars plan rs ms ≡ true
    → EarliestSmallest m (wires_of bars) plan
unfolding x
certified_earliest m bars plan rs ms ok =
    (border_is_the_earliest m ordered barred ones y flow (among ms) closed plan up.0 same).0
  where
    c : List Making
    c = m

    barred : Wires
    barred = wires_of bars

    y : Flow
    y = flow_from (length c) rs

    t : (ordered? c ≡ true) × (flow? c barred ones y ≡ true) × (found? c barred ones y ms ≡ true) × (closed? c barred ones y ms ≡ true)
        × (plan_fits c 0 plan ≡ true) × (all_below (length c) (λ w. same_test (has w plan) (border (among ms) w)) ≡ true)
    t = and_six (ordered? c) (flow? c barred ones y) (found? c barred ones y ms) (closed? c barred ones y ms) (plan_fits c 0 plan)
        (all_below (length c) (λ w. same_test (has w plan) (border (among ms) w))) ok

    ordered : Ordered c
    ordered = ordered_from c t.0

    flow : IsFlow c barred ones y
    flow = flow_from_test c barred ones rs t.1

    closed : Closed c barred ones y (among ms)
    closed = list_closed c ordered barred ones y flow ms t.2 t.3

    up : Ascending plan × AllByRecursion (λ w. produced_at c w ≡ true) plan
    up = (plans_are_ascending c plan).0 t.4

    same : (w : ℕ) → has w plan ≡ border (among ms) w
    same w =
        ⊎_elim
        (λ l. same_test_from (has w plan) (border (among ms) w) (all_below_at (length c) (λ w. same_test (has w plan) (border (among ms) w)) t.5 w l))
        (λ l. else_false (has w plan) (λ h. absurd (omega (arith, produced_in c w (sym (produced_is c w) ∙ all_has (λ w. produced_at c w ≡ true) plan up.1 w h))))
        ∙ sym (else_false (border (among ms) w)
        (λ h. absurd (omega (arith, (at_place c ordered barred ones y flow ms t.2 t.3 (entry w) (and_parts (among ms (entry w)) (not (among ms (exit w))) h).0).0)))))
        (cases_lt w (length c))
