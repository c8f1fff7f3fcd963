-- A largest flow, and with it an earliest plan, unless some route has only barred wires.
use Rattle.std.proofs.Common.{◌≡◌, ℕ, zero, suc, ◌+◌, ◌<◌, ◌≤◌, Bool, true, false, not, ◌&&◌, ◌||◌, eqb, ◌⊎◌, ◌↔◌, List, [], ◌∷◌, length, sym, refl, ap, ◌∙◌, subst, inl, inr, ⊎_elim, arith}
use Rattle.std.proofs.lemmas.Bool.{true≢false, cases_Bool, cases_lt, and_parts, and_from, eqb-true, or_cases, or_left, or_right, not-true}
use Rattle.circuits.specs.Growths.{exponential}
use Rattle.circuits.specs.declared.making.Making.{Making}
use Rattle.routes.specs.Routes.{Ordered, Wires, Ends, Ahead}
use Rattle.routes.specs.Sums.{ranks, one_if}
use Rattle.routes.specs.Plans.{FreeOf, cost, ones, Blocked, OneEarliestUnlessBlocked, Earliest, EarliestExistsUnlessBlocked}
use Rattle.routes.specs.Standing.{Stand, RoutesStandUpToCost, RoutesApartUpToSize}
use Rattle.routes.specs.Flows.{over, value, IsCut, capacity, Flow, IsFlow}
use Rattle.routes.specs.Residuals.{GoalReached, border, OneMoreStandsWhereReached, Place, Reached, Closed, entry, exit, at_product, by_step}
use Rattle.routes.specs.Paths.{sent, ended_at, Trail}
use Rattle.routes.proofs.Sums.{sum_same, sum_add, sum_zeros, sum_ones, all_of}
use Rattle.routes.proofs.Wires.{product_in, operand_lower, not_both, is, is_true, from_is, else_false}
use Rattle.routes.proofs.Standing.{apart_is_one_each}
use Rattle.routes.proofs.Flows.{ahead?, border_is_full_cut}
use Rattle.routes.proofs.Paths.{one_at, trails_add_one}
use Rattle.routes.proofs.Tests.{some_below, ends?, some_below_at, some_below_from, product?, product_true, ends_from, ends_true, same?, among, rank_of, same_from, some_place, step?, begins?, step_true, step_in, begins_reached, from_some}
use Rattle.routes.proofs.Cuts.{border_earliest, standing_bounds_cuts, blocked_is_barred_row, reached_trail, flows_split_into_routes, flows_are_small}
use Rattle.routes.proofs.Plans.{exponential_grows, standing_routes_bound_cost, listed_earliest, earliest_is_one, blocked_has_no_plan}

-- one place less is unmarked
fewer : (m : ℕ → Bool) (w : ℕ) → m w ≡ false → (u : ℕ) → one_if (not (m u)) ≡ one_if (not (eqb u w || m u)) + one_if (eqb u w)
fewer m w h u = go (eqb u w) (m u) (λ e. ap m (eqb-true u w e) ∙ h)
  where
    go : (a b : Bool) → (a ≡ true → b ≡ false) → one_if (not b) ≡ one_if (not (a || b)) + one_if a
    go true true k = not_both refl (k refl)
    go true false k = refl
    go false true k = refl
    go false false k = refl

module _ (c : List Making) (ordered : Ordered c) (barred : Wires) (price : ℕ → ℕ) (x : Flow) (flow : IsFlow c barred price x) where
  -- how many places of a side are not marked
  unmarked : (ℕ → Bool) → ℕ
  unmarked m = over c (λ w. one_if (not (m w)))

  unmarked_fewer : (m : ℕ → Bool) (w : ℕ) → w < length c → m w ≡ false → unmarked m ≡ unmarked (λ u. eqb u w || m u) + 1
  unfolding unmarked
  unmarked_fewer m w l h =
      let ws : List ℕ = ranks (length c) in
      omega (
        arith,
        sum_same (λ u. one_if (not (m u))) (λ u. one_if (not (eqb u w || m u)) + one_if (eqb u w)) ws (all_of (fewer m w h) ws),
        sum_add (λ u. one_if (not (eqb u w || m u))) (λ u. one_if (eqb u w)) ws,
        one_at w (length c) l,
      )

  -- a place that is not marked yet and could be
  abbrev new? : List Place → Place → Bool
  new? ms b = not (among ms b) && (begins? c b || some_place ms (λ a. step? c barred price x a b))

  -- all marks are reached and lie in the circuit
  abbrev Sound : List Place → Type 0
  Sound ms = (a : Place) → among ms a ≡ true → Reached c barred price x a × (rank_of a < length c)

  new_sound : (ms : List Place) (b : Place) → Sound ms → rank_of b < length c → new? ms b ≡ true → Sound (b ∷ ms)
  new_sound ms b s l h a m =
      ⊎_elim
      (λ e. subst (λ p. Reached c barred price x p × (rank_of p < length c)) (sym (same_from a b e)) (
        ⊎_elim (begins_reached c ordered barred price x flow b)
            (λ k. from_some c ordered barred price x flow ms b k (λ q n. (s q n).0))
            (or_cases (begins? c b) (some_place ms (λ a. step? c barred price x a b)) (and_parts (not (among ms b)) (begins? c b || some_place ms (λ a. step? c barred price x a b)) h).1),
        l,
      ))
      (s a) (or_cases (same? a b) (among ms a) m)

  some_place_from : (ms : List Place) (f : Place → Bool) (a : Place) → among ms a ≡ true → f a ≡ true → some_place ms f ≡ true
  some_place_from [] f a m h = absurd (true≢false (sym m))
  some_place_from (b ∷ bs) f a m h =
      ⊎_elim (λ e. or_left (f b) (some_place bs f) (sym (ap f (same_from a b e)) ∙ h)) (λ k. or_right (f b) (some_place bs f) (some_place_from bs f a k h))
      (or_cases (same? a b) (among bs a) m)

  -- nothing is new: the marks are what is reached
  module _ (ms : List Place) (sound : Sound ms) (old : (b : Place) → rank_of b < length c → new? ms b ≡ true → ⊥) where
    must : (b : Place) → rank_of b < length c → (begins? c b || some_place ms (λ a. step? c barred price x a b)) ≡ true → among ms b ≡ true
    must b l h =
        ⊎_elim (λ k. k) (λ k. absurd (old b l (and_from (not (among ms b)) (begins? c b || some_place ms (λ a. step? c barred price x a b)) (ap not k) h)))
        (cases_Bool (among ms b))

    complete : {a : Place} → Reached c barred price x a → among ms a ≡ true
    complete (at_product {w = w} f) =
        must (entry w) (product_in c w f)
        (or_left (product? c w) (some_place ms (λ a. step? c barred price x a (entry w))) (product_true c w f))
    complete (by_step {a = a} {b = b} r s) =
        let m : among ms a ≡ true = complete r in
        must b (step_in c ordered barred price x flow s (sound a m).1)
        (or_right (begins? c b) (some_place ms (λ a. step? c barred price x a b))
        (some_place_from ms (λ a. step? c barred price x a b) a m (step_true c ordered barred price x flow s)))

  Found : Type 0
  Found = (ms : List Place) × Sound ms × ((b : Place) → rank_of b < length c → new? ms b ≡ true → ⊥)

  left_over : List Place → ℕ
  left_over ms = unmarked (λ w. among ms (entry w)) + unmarked (λ w. among ms (exit w))

  left_fewer : (ms : List Place) (b : Place) → rank_of b < length c → among ms b ≡ false → left_over ms ≡ left_over (b ∷ ms) + 1
  unfolding left_over
  left_fewer ms (entry w) l h = omega (arith, unmarked_fewer (λ u. among ms (entry u)) w l h)
  left_fewer ms (exit w) l h = omega (arith, unmarked_fewer (λ u. among ms (exit u)) w l h)

  pick : (ms : List Place) → ((b : Place) × (rank_of b < length c) × (new? ms b ≡ true)) ⊎ ((b : Place) → rank_of b < length c → new? ms b ≡ true → ⊥)
  pick ms =
      ⊎_elim
      (λ e. let t : (w : ℕ) × (w < length c) × (new? ms (entry w) ≡ true) = below (length c) (λ w. new? ms (entry w)) e in inl (entry t.0, t.1, t.2))
      (λ e. ⊎_elim
      (λ f. let t : (w : ℕ) × (w < length c) × (new? ms (exit w) ≡ true) = below (length c) (λ w. new? ms (exit w)) f in inl (exit t.0, t.1, t.2))
      (λ f. inr (none e f)) (cases_Bool (some_below (length c) (λ w. new? ms (exit w)))))
      (cases_Bool (some_below (length c) (λ w. new? ms (entry w))))
    where
      below : (n : ℕ) (f : ℕ → Bool) → some_below n f ≡ true → (w : ℕ) × (w < n) × (f w ≡ true)
      below zero f h = absurd (true≢false (sym h))
      below (suc n) f h =
          ⊎_elim (λ k. (n, omega arith, k)) (λ k. let t : (w : ℕ) × (w < n) × (f w ≡ true) = below n f k in (t.0, omega (arith, t.1), t.2)) (or_cases (f n) (some_below n f) h)

      none : some_below (length c) (λ w. new? ms (entry w)) ≡ false → some_below (length c) (λ w. new? ms (exit w)) ≡ false
          → (b : Place) → rank_of b < length c → new? ms b ≡ true → ⊥
      none e f (entry w) l h = true≢false (sym (some_below_from (length c) (λ w. new? ms (entry w)) w l h) ∙ e)
      none e f (exit w) l h = true≢false (sym (some_below_from (length c) (λ w. new? ms (exit w)) w l h) ∙ f)

  unmarked_new : (ms : List Place) (b : Place) → new? ms b ≡ true → among ms b ≡ false
  unmarked_new ms b h = not-true (among ms b) (and_parts (not (among ms b)) (begins? c b || some_place ms (λ a. step? c barred price x a b)) h).0

  search_on : (k : ℕ) (ms : List Place) → Sound ms → left_over ms ≤ k → Found
  unfolding Found
  search_on zero ms sound h =
      ⊎_elim (λ t. absurd (omega (arith, left_fewer ms t.0 t.1 (unmarked_new ms t.0 t.2)))) (λ n. (ms, sound, n)) (pick ms)
  search_on (suc k) ms sound h =
      ⊎_elim
      (λ t. search_on k (t.0 ∷ ms) (new_sound ms t.0 sound t.1 t.2) (omega (arith, left_fewer ms t.0 t.1 (unmarked_new ms t.0 t.2))))
      (λ n. (ms, sound, n)) (pick ms)

  -- the search is closed, or a place where a route may end is reached
  pub searched : ((mark : Place → Bool) × Closed c barred price x mark) ⊎ GoalReached c barred price x
  unfolding Found
  searched =
      let t : (ms : List Place) × Sound ms × ((b : Place) → rank_of b < length c → new? ms b ≡ true → ⊥) =
      search_on (left_over []) [] (λ a m. absurd (true≢false (sym m))) (omega arith) in
      ⊎_elim
      (λ e. let u : (w : ℕ) × ((ends? c w && among t.0 (exit w)) ≡ true) = some_below_at (length c) (λ w. ends? c w && among t.0 (exit w)) e in
      let v : (ends? c u.0 ≡ true) × (among t.0 (exit u.0) ≡ true) = and_parts (ends? c u.0) (among t.0 (exit u.0)) u.1 in
      inr (u.0, ends_from c u.0 v.0, (t.1 (exit u.0) v.1).0))
      (λ e. inl (
        among t.0,
        record {
          exact = λ a. (λ m. (t.1 a m).0, λ r. complete t.0 t.1 t.2 r);
          ended = λ w f.
              let l : w < f.0 = operand_lower c ordered f.0 w f.2 in
              let k : f.0 < length c = product_in c f.0 f.1 in
              else_false (among t.0 (exit w)) (λ m.
              true≢false (sym (some_below_from (length c) (λ w. ends? c w && among t.0 (exit w)) w (omega arith) (and_from (ends? c w) (among t.0 (exit w)) (ends_true c w f) m)) ∙ e));
        },
      ))
      (cases_Bool (some_below (length c) (λ w. ends? c w && among t.0 (exit w))))

-- no units
no_units : Flow
no_units = record { start = λ w. 0; along = λ v w. 0; finish = λ w. 0; through = λ w. 0 }

no_units_flow : (c : List Making) (barred : Wires) (price : ℕ → ℕ) → IsFlow c barred price no_units
unfolding no_units
no_units_flow c barred price =
    record {
      from_products = λ w l. absurd (omega arith);
      passed_on = λ v w l. absurd (omega arith);
      to_products = λ w l. absurd (omega arith);
      enters = λ w. omega (arith, sum_zeros (ranks (length c)));
      leaves = λ w. omega (arith, sum_zeros (ranks (length c)));
      fits = λ w u. omega arith;
    }

module _ (c : List Making) (ordered : Ordered c) (barred : Wires) (price : ℕ → ℕ) where
  -- where a goal is reached there is a flow of one unit more
  one_more : (x : Flow) → IsFlow c barred price x → GoalReached c barred price x → (y : Flow) × IsFlow c barred price y × (value c y ≡ value c x + 1)
  one_more x flow g =
      let p : (ps : List Place) × Trail c barred price x (exit g.0) ps = reached_trail c barred price x g.2 in
      let t : IsFlow c barred price (sent p.1 (ended_at g.0 x)) × (value c (sent p.1 (ended_at g.0 x)) ≡ value c x + 1) =
      trails_add_one c ordered barred price x flow g.0 p.0 p.1 g.1 in
      (sent p.1 (ended_at g.0 x), t.0, t.1)

  -- a flow that has no goal to reach
  abbrev Largest : Type 0
  Largest = (x : Flow) × IsFlow c barred price x × ((mark : Place → Bool) × Closed c barred price x mark)

  grow : (Blocked c barred → ⊥) → (k : ℕ) (x : Flow) → IsFlow c barred price x → over c price ≤ value c x + k → Largest
  grow open-for zero x flow h =
      ⊎_elim (λ t. (x, flow, t))
      (λ g. let y : (y : Flow) × IsFlow c barred price y × (value c y ≡ value c x + 1) = one_more x flow g in
      absurd (omega (arith, y.2, (flows_are_small c ordered barred price y.0 y.1).1 open-for)))
      (searched c ordered barred price x flow)
  grow open-for (suc k) x flow h =
      ⊎_elim (λ t. (x, flow, t))
      (λ g. let y : (y : Flow) × IsFlow c barred price y × (value c y ≡ value c x + 1) = one_more x flow g in
      grow open-for k y.0 y.1 (omega (arith, y.2)))
      (searched c ordered barred price x flow)

  largest : (Blocked c barred → ⊥) → Largest
  largest open-for = grow open-for (over c price) no_units (no_units_flow c barred price) (omega arith)

  blocked? : Blocked c barred ⊎ (Blocked c barred → ⊥)
  blocked? =
      ⊎_elim
      (λ e. let t : (w : ℕ) × ((ends? c w && is (ahead? c ordered p w)) ≡ true) = some_below_at (length c) (λ w. ends? c w && is (ahead? c ordered p w)) e in
      let u : (ends? c t.0 ≡ true) × (is (ahead? c ordered p t.0) ≡ true) = and_parts (ends? c t.0) (is (ahead? c ordered p t.0)) t.1 in
      inl ((blocked_is_barred_row c barred).1 (t.0, ends_from c t.0 u.0, from_is (ahead? c ordered p t.0) u.1)))
      (λ e. inr (λ b.
      let t : (w : ℕ) × Ends c w × Ahead c p w = (blocked_is_barred_row c barred).0 b in
      let l : t.0 < t.1.0 = operand_lower c ordered t.1.0 t.0 t.1.2 in
      let k : t.1.0 < length c = product_in c t.1.0 t.1.1 in
      true≢false (sym (some_below_from (length c) (λ w. ends? c w && is (ahead? c ordered p w)) t.0 (omega arith)
      (and_from (ends? c t.0) (is (ahead? c ordered p t.0)) (ends_true c t.0 t.1) (is_true (ahead? c ordered p t.0) t.2))) ∙ e)))
      (cases_Bool (some_below (length c) (λ w. ends? c w && is (ahead? c ordered p w))))
    where
      p : Wires
      p = λ v. not (barred v)

-- unless blocked, a largest flow and the earliest plan, which costs as much as the flow has units
largest_plan : (m : List Making) → Ordered m → (barred : Wires) (price : ℕ → ℕ) → (Blocked m barred → ⊥)
    → (x : Flow) × IsFlow m barred price x × ((plan : List ℕ) × Earliest m barred price plan × (cost price plan ≡ value m x))
largest_plan m ordered barred price open-for =
    let c : List Making = m in
    let t : (x : Flow) × IsFlow c barred price x × ((mark : Place → Bool) × Closed c barred price x mark) = largest c ordered barred price open-for in
    let e : (plan : List ℕ) × Earliest m barred price plan × (cost price plan ≡ capacity c price (border t.2.0)) =
    listed_earliest m ordered barred price (border t.2.0) (border_earliest c ordered barred price t.0 t.1 t.2.0 t.2.1) in
    (t.0, t.1, (e.0, e.1, e.2 ∙ (border_is_full_cut c ordered barred price t.0 t.1 t.2.0 t.2.1).2))

pub earliest_exists_unless_blocked : EarliestExistsUnlessBlocked
earliest_exists_unless_blocked m ordered barred price =
    ⊎_elim inl
    (λ open-for.
    let t : (x : Flow) × IsFlow m barred price x × ((plan : List ℕ) × Earliest m barred price plan × (cost price plan ≡ value m x)) =
    largest_plan m ordered barred price open-for in
    inr (t.2.0, t.2.1))
    (blocked? m ordered barred price)

pub one_earliest_unless_blocked : OneEarliestUnlessBlocked
one_earliest_unless_blocked m ordered barred =
    ⊎_elim inl (λ e. inr (e.0, e.1, λ q f. earliest_is_one m ordered barred ones (λ w. omega arith) q e.0 f e.1))
    (earliest_exists_unless_blocked m ordered barred ones)

-- fewer of the routes stand too
fewer_stand : (c : List Making) (barred : Wires) (price : ℕ → ℕ) (k : ℕ) (rs : List (List ℕ)) → Stand c barred price rs → k ≤ length rs
    → (qs : List (List ℕ)) × Stand c barred price qs × (length qs ≡ k)
fewer_stand c barred price k [] s h = ([], s, omega arith)
fewer_stand c barred price k (r ∷ rs) s h =
    ⊎_elim
    (λ l. fewer_stand c barred price k rs (s.0.1, λ w u. omega (arith, s.1 w u)) (omega arith))
    (λ l. (r ∷ rs, s, omega arith)) (cases_lt k (length (r ∷ rs)))

pub routes_stand_up_to_cost : RoutesStandUpToCost
routes_stand_up_to_cost m ordered barred price plan f k = (
  λ t. omega (arith, t.2, standing_routes_bound_cost exponential exponential_grows m ordered barred price t.0 t.1 plan (f.fits.clean exponential exponential_grows) f.fits.free),
  λ h. let t : (x : Flow) × IsFlow m barred price x × ((q : List ℕ) × Earliest m barred price q × (cost price q ≡ value m x)) =
      largest_plan m ordered barred price (λ b. blocked_has_no_plan m ordered barred b plan f.fits) in
      let s : (rs : List (List ℕ)) × Stand m barred price rs × (length rs ≡ value m t.0) = flows_split_into_routes m ordered barred price t.0 t.1 in
      fewer_stand m barred price k s.0 s.1 (omega (arith, s.2, t.2.2, f.least t.2.0 t.2.1.cheapest.fits)),
)

pub routes_apart_up_to_size : RoutesApartUpToSize
routes_apart_up_to_size m ordered barred plan f k =
    let up_to : ((rs : List (List ℕ)) × Stand m barred ones rs × (length rs ≡ k)) ↔ (k ≤ cost ones plan) = routes_stand_up_to_cost m ordered barred ones plan f k in (
      λ t. omega (arith, sum_ones plan, up_to.0 (t.0, (t.1, (apart_is_one_each barred t.0).0 t.2), t.3)),
      λ h. let t : (rs : List (List ℕ)) × Stand m barred ones rs × (length rs ≡ k) = up_to.1 (omega (arith, sum_ones plan)) in
          (t.0, t.1.0, (apart_is_one_each barred t.0).1 t.1.1, t.2),
    )

-- where no goal is reached, no more routes can stand than there are units
pub closed_bounds_standing : (c : List Making) → Ordered c → (barred : Wires) (price : ℕ → ℕ) (x : Flow) → IsFlow c barred price x
    → (mark : Place → Bool) → Closed c barred price x mark → (rs : List (List ℕ)) → Stand c barred price rs → length rs ≤ value c x
closed_bounds_standing c ordered barred price x flow mark closed rs stand =
    let t : IsCut c (border mark) × FreeOf barred (border mark) × (capacity c price (border mark) ≡ value c x) =
    border_is_full_cut c ordered barred price x flow mark closed in
    omega (arith, t.2, standing_bounds_cuts c barred price rs stand (border mark) t.0 t.1)

pub one_more_stands_where_reached : OneMoreStandsWhereReached
one_more_stands_where_reached c ordered barred price x flow = (
  λ s. ⊎_elim (λ t. absurd (omega (arith, s.2, closed_bounds_standing c ordered barred price x flow t.0 t.1 s.0 s.1))) (λ t. t)
      (searched c ordered barred price x flow),
  λ g. let y : (y : Flow) × IsFlow c barred price y × (value c y ≡ value c x + 1) = one_more c ordered barred price x flow g in
      let s : (rs : List (List ℕ)) × Stand c barred price rs × (length rs ≡ value c y.0) = flows_split_into_routes c ordered barred price y.0 y.1 in
      (s.0, s.1, s.2 ∙ y.2),
)
