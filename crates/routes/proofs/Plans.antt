-- Plans as cuts, and cuts as plans.
use Rattle.std.proofs.Common.{◌≡◌, ℕ, zero, suc, ◌+◌, ◌<◌, ◌≤◌, true, cond, ◌||◌, List, [], ◌∷◌, length, sym, refl, ap, ◌∙◌, subst, ⊎_elim, arith}
use mathlib.Core.Path.{fun_ext}
use Rattle.std.proofs.ByRecursion.{All-weaker}
use Rattle.std.proofs.lemmas.Bool.{cond_both, cases_eq, eq-eqb, ne_eqb, cases_lt}
use Rattle.std.specs.List.{AllByRecursion}
use Rattle.circuits.specs.Growths.{Grows, exponential}
use Rattle.circuits.specs.Levels.{has, produced, produced_at}
use Rattle.circuits.specs.declared.making.Making.{Making}
use Rattle.routes.specs.Routes.{at, Ordered, Wires, Route, Hits, Ahead}
use Rattle.routes.specs.Sums.{sum_of, one_if}
use Rattle.routes.specs.Ranks.{Ascending}
use Rattle.routes.specs.Plans.{wires_of, FreeOf, cost, ones, EarliestIsOne, BlockedHasNoPlan, SmallestIsFewest, Fits, Cheapest, Earliest}
use Rattle.routes.specs.Standing.{passing, StandingRoutesBoundCost, RoutesApartBoundPlans}
use Rattle.routes.specs.Flows.{IsCut, capacity}
use Rattle.routes.specs.Residuals.{border, BorderIsTheEarliest}
use Rattle.routes.proofs.Sums.{sum_le, sum_ones, sum_swap}
use Rattle.routes.proofs.Wires.{produced_in, produced_is, not_both, all_has, has_all, else_false}
use Rattle.routes.proofs.Levels.{clean_is_every_route_hit}
use Rattle.routes.proofs.Ranks.{not_has, cost_is_capacity, one_ascending_list, plans_are_ascending}
use Rattle.routes.proofs.Standing.{hit_wire, has_le, one_if_true, apart_is_one_each}
use Rattle.routes.proofs.Flows.{border_is_full_cut}
use Rattle.routes.proofs.Cuts.{earliest_cut_is_one, border_earliest, FreeCut, CheapestCut, EarliestCut}

pub exponential_grows : Grows exponential
exponential_grows =
    record {
      sum_larger = λ a b la lb. refl;
      product_above = λ a b la lb. omega (arith, la.low, lb.low);
      product_most = λ a b la lb. omega (arith, la.high, lb.high);
      product_first = refl;
    }

-- each route has a wire of the plan; the plan's wires are counted once for each route
pub standing_routes_bound_cost : StandingRoutesBoundCost
standing_routes_bound_cost t laws m ordered barred price rs stand plan clean free =
    let hit : AllByRecursion (λ r. 1 ≤ sum_of (λ w. one_if (has w r)) plan) rs =
    All-weaker (Route m) (λ r. 1 ≤ sum_of (λ w. one_if (has w r)) plan)
    (λ r route.
    let t : (w : ℕ) × (has w plan ≡ true) × (has w r ≡ true) =
    hit_wire (wires_of plan) r ((clean_is_every_route_hit t laws m ordered plan).0 clean r route) in
    omega (arith, has_le (λ w. one_if (has w r)) plan t.0 t.1, one_if_true (has t.0 r) t.2))
    rs stand.0 in
    omega (
      arith,
      sum_ones rs,
      sum_le (λ r. 1) (λ r. sum_of (λ w. one_if (has w r)) plan) rs hit,
      sum_swap (λ r w. one_if (has w r)) rs plan,
      sum_le (passing rs) price plan (has_all plan (λ w h. stand.1 w (free w h))),
    )

pub routes_apart_bound_plans : RoutesApartBoundPlans
routes_apart_bound_plans t laws m ordered barred rs routes apart plan clean free =
    omega (
      arith,
      sum_ones plan,
      standing_routes_bound_cost t laws m ordered barred ones rs (routes, (apart_is_one_each barred rs).0 apart) plan clean free,
    )

-- the wires of a set from k on, of the next n
listed_from : Wires → ℕ → ℕ → List ℕ
listed_from p k zero = []
listed_from p k (suc n) = cond (p k) (k ∷ listed_from p (k + 1) n) (listed_from p (k + 1) n)

listed_low : (p : Wires) (k n : ℕ) → AllByRecursion (λ w. k ≤ w) (listed_from p k n)
unfolding listed_from
listed_low p k zero = tt
listed_low p k (suc n) =
    let rest : AllByRecursion (λ w. k ≤ w) (listed_from p (k + 1) n) =
    All-weaker (λ w. k + 1 ≤ w) (λ w. k ≤ w) (λ w l. omega arith) (listed_from p (k + 1) n) (listed_low p (k + 1) n) in
    cond_both (p k) _ _ (AllByRecursion (λ w. k ≤ w)) (λ e. (omega arith, rest)) (λ e. rest)

listed_high : (p : Wires) (k n : ℕ) → AllByRecursion (λ w. w < k + n) (listed_from p k n)
unfolding listed_from
listed_high p k zero = tt
listed_high p k (suc n) =
    let rest : AllByRecursion (λ w. w < k + suc n) (listed_from p (k + 1) n) =
    All-weaker (λ w. w < k + 1 + n) (λ w. w < k + suc n) (λ w l. omega arith) (listed_from p (k + 1) n) (listed_high p (k + 1) n) in
    cond_both (p k) _ _ (AllByRecursion (λ w. w < k + suc n)) (λ e. (omega arith, rest)) (λ e. rest)

listed_after : (p : Wires) (k n : ℕ) → AllByRecursion (λ w. k < w) (listed_from p (k + 1) n)
listed_after p k n = All-weaker (λ w. k + 1 ≤ w) (λ w. k < w) (λ w l. omega arith) (listed_from p (k + 1) n) (listed_low p (k + 1) n)

listed_ascending : (p : Wires) (k n : ℕ) → Ascending (listed_from p k n)
unfolding listed_from
listed_ascending p k zero = tt
listed_ascending p k (suc n) =
    cond_both (p k) _ _ Ascending (λ e. (listed_after p k n, listed_ascending p (k + 1) n)) (λ e. listed_ascending p (k + 1) n)

listed_has : (p : Wires) (k n w : ℕ) → k ≤ w → w < k + n → has w (listed_from p k n) ≡ p w
unfolding listed_from
listed_has p k zero w l h = absurd (omega arith)
listed_has p k (suc n) w l h =
    let xs : List ℕ = listed_from p (k + 1) n in
    ⊎_elim
    (λ (s : k ≡ w). cond_both (p k) _ _ (λ ys. has w ys ≡ p w)
    (λ e. ap (λ b. b || has w xs) (eq-eqb k w s) ∙ sym (sym (ap p s) ∙ e))
    (λ e. subst (λ u. has u xs ≡ p u) s (not_has k xs (listed_after p k n) ∙ sym e)))
    (λ n'. let rest : has w xs ≡ p w = listed_has p (k + 1) n w (apart k w l n') (omega arith) in
    cond_both (p k) _ _ (λ ys. has w ys ≡ p w) (λ e. ap (λ b. b || has w xs) (ne_eqb k w n') ∙ rest) (λ e. rest))
    (cases_eq k w)
  where
    apart : (k w : ℕ) → k ≤ w → (k ≡ w → ⊥) → k + 1 ≤ w
    apart k w l n = ⊎_elim (λ (h : k < w). omega arith) (λ h. absurd (n (omega arith))) (cases_lt k w)

-- the wires of a set of a circuit, ascending
listed : List Making → Wires → List ℕ
listed c p = listed_from p 0 (length c)

listed_wires : (c : List Making) (p : Wires) → ((w : ℕ) → p w ≡ true → w < length c) → wires_of (listed c p) ≡ p
unfolding listed
listed_wires c p within = fun_ext (λ w. ⊎_elim
    (λ l. listed_has p 0 (length c) w (omega arith) (omega arith))
    (λ l. else_false (has w (listed c p)) (λ h. let k : w < 0 + length c = all_has (λ w. w < 0 + length c) (listed c p) (listed_high p 0 (length c)) w h in omega arith)
    ∙ sym (else_false (p w) (λ h. let k : w < length c = within w h in omega arith)))
    (cases_lt w (length c)))

module _ (m : List Making) (ordered : Ordered m) (barred : Wires) where
  -- a plan that fits has a wire of every route
  pub fits_cut : (plan : List ℕ) → Fits m barred plan → IsCut m (wires_of plan)
  fits_cut plan f = (clean_is_every_route_hit exponential exponential_grows m ordered plan).0 (f.clean exponential exponential_grows)

  pub fits_ascending : (plan : List ℕ) → Fits m barred plan → Ascending plan
  fits_ascending plan f = ((plans_are_ascending m plan).0 f.planned).0

  pub fits_made : (plan : List ℕ) → Fits m barred plan → (w : ℕ) → has w plan ≡ true → produced (at m w) ≡ true
  fits_made plan f w h =
      sym (produced_is m w) ∙ all_has (λ w. produced_at m w ≡ true) plan ((plans_are_ascending m plan).0 f.planned).1 w h

  fits_free_cut : (plan : List ℕ) → Fits m barred plan → FreeCut m barred (wires_of plan)
  fits_free_cut plan f = record { made = fits_made plan f; cut = fits_cut plan f; free = f.free }

  cut_fits : (plan : List ℕ) → Ascending plan → FreeCut m barred (wires_of plan) → Fits m barred plan
  cut_fits plan up f =
      record {
        planned = (plans_are_ascending m plan).1 (up, has_all plan (λ w h. produced_is m w ∙ f.made w h));
        clean = λ t laws. (clean_is_every_route_hit t laws m ordered plan).1 f.cut;
        free = f.free;
      }

  pub fits_cost : (price : ℕ → ℕ) (plan : List ℕ) → Fits m barred plan → capacity m price (wires_of plan) ≡ cost price plan
  fits_cost price plan f =
      cost_is_capacity m price plan (fits_ascending plan f) (has_all plan (λ w h. produced_in m w (fits_made plan f w h)))

  -- each such cut is that of a plan
  listed_cut : (q : Wires) → FreeCut m barred q → wires_of (listed m q) ≡ q
  listed_cut q f = listed_wires m q (λ w h. produced_in m w (f.made w h))

  listed_fits : (q : Wires) → FreeCut m barred q → Fits m barred (listed m q)
  unfolding listed
  listed_fits q f =
      cut_fits (listed m q) (listed_ascending q 0 (length m)) (subst (FreeCut m barred) (sym (listed_cut q f)) f)

  module _ (price : ℕ → ℕ) where
    cheapest_cut : (plan : List ℕ) → Cheapest m barred price plan → CheapestCut m barred price (wires_of plan)
    cheapest_cut plan f =
        record {
          fits = fits_free_cut plan f.fits;
          least = λ q g. omega (
            arith,
            fits_cost price plan f.fits,
            f.least (listed m q) (listed_fits q g),
            fits_cost price (listed m q) (listed_fits q g),
            ap (capacity m price) (listed_cut q g),
          );
        }

    cut_cheapest : (plan : List ℕ) → Ascending plan → CheapestCut m barred price (wires_of plan) → Cheapest m barred price plan
    cut_cheapest plan up f =
        let fits : Fits m barred plan = cut_fits plan up f.fits in
        record {
          fits = fits;
          least = λ q g. omega (arith, fits_cost price plan fits, f.least (wires_of q) (fits_free_cut q g), fits_cost price q g);
        }

    earliest_cut : (plan : List ℕ) → Earliest m barred price plan → EarliestCut m barred price (wires_of plan)
    earliest_cut plan f =
        record {
          cheapest = cheapest_cut plan f.cheapest;
          first = λ q g w a.
              let same : wires_of (listed m q) ≡ q = listed_cut q g.fits in
              subst (λ p. Ahead m p w) same
              (f.first (listed m q)
              (cut_cheapest (listed m q) (fits_ascending (listed m q) (listed_fits q g.fits)) (subst (CheapestCut m barred price) (sym same) g)) w a);
        }

    cut_earliest : (plan : List ℕ) → Ascending plan → EarliestCut m barred price (wires_of plan) → Earliest m barred price plan
    cut_earliest plan up f = record { cheapest = cut_cheapest plan up f.cheapest; first = λ q g. f.first (wires_of q) (cheapest_cut q g) }

    pub listed_earliest : (p : Wires) → EarliestCut m barred price p
        → (plan : List ℕ) × Earliest m barred price plan × (cost price plan ≡ capacity m price p)
    unfolding listed
    listed_earliest p f =
        let plan : List ℕ = listed m p in
        let same : wires_of plan ≡ p = listed_cut p f.cheapest.fits in
        let e : Earliest m barred price plan =
        cut_earliest plan (listed_ascending p 0 (length m)) (subst (EarliestCut m barred price) (sym same) f) in
        (plan, e, sym (fits_cost price plan e.cheapest.fits) ∙ ap (capacity m price) same)

pub earliest_is_one : EarliestIsOne
earliest_is_one m ordered barred price paid p q ep eq =
    one_ascending_list p q (fits_ascending m ordered barred p ep.cheapest.fits) (fits_ascending m ordered barred q eq.cheapest.fits)
    (earliest_cut_is_one m ordered barred price paid (wires_of p) (wires_of q) (earliest_cut m ordered barred price p ep) (earliest_cut m ordered barred price q eq))

pub border_is_the_earliest : BorderIsTheEarliest
border_is_the_earliest m ordered barred price x flow mark closed plan up is-border =
    let same : wires_of plan ≡ border mark = fun_ext is-border in
    let e : Earliest m barred price plan =
    cut_earliest m ordered barred price plan up
    (subst (EarliestCut m barred price) (sym same) (border_earliest m ordered barred price x flow mark closed)) in (
      e,
      sym (fits_cost m ordered barred price plan e.cheapest.fits) ∙ ap (capacity m price) same
          ∙ (border_is_full_cut m ordered barred price x flow mark closed).2,
    )

-- a set without barred wires meets no route that has only such
free_misses : (barred p : Wires) → FreeOf barred p → (r : List ℕ) → AllByRecursion (λ w. barred w ≡ true) r → Hits p r → ⊥
free_misses barred p free [] a h = h
free_misses barred p free (w ∷ ws) a h = ⊎_elim (λ k. not_both a.0 (free w k)) (free_misses barred p free ws a.1) h

pub blocked_has_no_plan : BlockedHasNoPlan
blocked_has_no_plan m ordered barred b plan f =
    free_misses barred (wires_of plan) f.free b.0 b.2 (fits_cut m ordered barred plan f b.0 b.1)

pub smallest_is_fewest : SmallestIsFewest
smallest_is_fewest m barred plan = (
  λ f. (f.fits, λ q g. omega (arith, f.least q g, sum_ones plan, sum_ones q)),
  λ f. record { fits = f.0; least = λ q g. omega (arith, f.1 q g, sum_ones plan, sum_ones q) },
)
