-- Cuts without barred wires, the cheapest of them and the earliest of those; and the routes of a flow.
use Rattle.std.proofs.Common.{◌≡◌, ℕ, zero, suc, ◌+◌, ◌<◌, ◌≤◌, Bool, true, false, cond, not, ◌&&◌, ◌⊎◌, List, [], ◌∷◌, length, sym, refl, ap, subst, ap₂, inl, inr, ⊎_elim, arith}
use Rattle.std.proofs.ByRecursion.{All-weaker}
use Rattle.std.proofs.lemmas.Bool.{cases_Bool, cases_lt, and_parts, not-true}
use Rattle.std.specs.List.{AllByRecursion}
use Rattle.circuits.specs.Levels.{has, produced}
use Rattle.circuits.specs.declared.making.Making.{Making}
use Rattle.routes.specs.Routes.{at, Ordered, Wires, Joined, last, Ends, Route, Hits, Ahead, starts, goes_on}
use Rattle.routes.specs.Sums.{sum_of, ranks, one_if}
use Rattle.routes.specs.Plans.{FreeOf, Blocked, BlockedIsBarredRow}
use Rattle.routes.specs.Standing.{passing, Stand}
use Rattle.routes.specs.Flows.{over, value, IsCut, capacity, FlowsSplitIntoRoutes, FlowsAreSmall, Flow, IsFlow}
use Rattle.routes.specs.Residuals.{border, Place, Step, Reached, Closed, entry, exit, pass_one, unpass_one, send_on, take_back, at_product, by_step}
use Rattle.routes.specs.Paths.{Trail, begun, after}
use Rattle.routes.specs.Traces.{Traced, Traces}
use Rattle.routes.proofs.Sums.{sum_le, sum_none, sum_add, sum_ones, sum_swap, all_of, all_ranks, term_le, sum_tight, sum_positive, cond_le}
use Rattle.routes.proofs.Wires.{product_in, passes_in, produced_in, passes_operand, operand_lower, passes_produced, product_produced, not_both, all_has, is, is_true, from_is}
use Rattle.routes.proofs.Levels.{ahead_route}
use Rattle.routes.proofs.Standing.{hit_wire}
use Rattle.routes.proofs.Flows.{Fed, fed_ahead, ahead_fed, fed?, flows_bound_cuts, border_is_full_cut, border_is_earliest_cut}
use Rattle.routes.proofs.Traces.{units_have_rows, traces_are_routes}
use Rattle.routes.proofs.Tests.{same?, same_self, same_from}

-- a set without the wires that no row from a product meets first
module _ (c : List Making) (ordered : Ordered c) (q : Wires) where
  met : Wires
  met w = is (fed? c ordered q w) && q w

  met_true : (w : ℕ) → Fed c q w → q w ≡ true → met w ≡ true
  unfolding met
  met_true w f h = ap₂ (λ a b. a && b) (is_true (fed? c ordered q w) f) h

  met_parts : (w : ℕ) → met w ≡ true → Fed c q w × (q w ≡ true)
  unfolding met
  met_parts w h =
      let t : (is (fed? c ordered q w) ≡ true) × (q w ≡ true) = and_parts (is (fed? c ordered q w)) (q w) h in
      (from_is (fed? c ordered q w) t.0, t.1)

  met_walk : IsCut c q → (v : ℕ) (ws : List ℕ) → Ahead c q v → Joined c v ws → Ends c (last v ws) → Hits met ws
  met_walk cut v [] a j f =
      let t : (r : List ℕ) × Route c r × (Hits q r → ⊥) = ahead_route c q a [] tt (λ y. y) f in
      absurd (t.2 (cut t.0 t.1))
  met_walk cut v (w ∷ ws) a j f =
      ⊎_elim (λ h. inl (met_true w (inr (v, j.0, a)) h)) (λ h. inr (met_walk cut w ws (goes_on a j.0 h) j.1 f)) (cases_Bool (q w))

  met_cut : IsCut c q → IsCut c met
  met_cut cut [] r = absurd r
  met_cut cut (w ∷ ws) r =
      ⊎_elim (λ h. inl (met_true w (inl r.0) h)) (λ h. inr (met_walk cut w ws (starts r.0 h) r.1 r.2)) (cases_Bool (q w))

-- a cut of produced wires that are not barred
pub record FreeCut (c : List Making) (barred p : Wires) : Type 0 where
  pub made : (w : ℕ) → p w ≡ true → produced (at c w) ≡ true
  pub cut : IsCut c p
  pub free : FreeOf barred p

pub record CheapestCut (c : List Making) (barred : Wires) (price : ℕ → ℕ) (p : Wires) : Type 0 where
  pub fits : FreeCut c barred p
  pub least : (q : Wires) → FreeCut c barred q → capacity c price p ≤ capacity c price q

pub record EarliestCut (c : List Making) (barred : Wires) (price : ℕ → ℕ) (p : Wires) : Type 0 where
  pub cheapest : CheapestCut c barred price p
  pub first : (q : Wires) → CheapestCut c barred price q → (w : ℕ) → Ahead c p w → Ahead c q w

module _ (c : List Making) (ordered : Ordered c) (barred : Wires) (price : ℕ → ℕ) where
  met_fits : (q : Wires) → FreeCut c barred q → FreeCut c barred (met c ordered q)
  met_fits q f =
      record {
        made = λ w h. f.made w (met_parts c ordered q w h).1;
        cut = met_cut c ordered q f.cut;
        free = λ w h. f.free w (met_parts c ordered q w h).1;
      }

  -- each wire of a cheapest cut is met
  cheapest_met : ((w : ℕ) → 1 ≤ price w) → (q : Wires) → CheapestCut c barred price q → (w : ℕ) → q w ≡ true → Fed c q w
  cheapest_met paid q f w h =
      let tight : cond (q w) (price w) 0 ≡ cond (met c ordered q w) (price w) 0 =
      sum_tight (λ w. cond (q w) (price w) 0) (λ w. cond (met c ordered q w) (price w) 0) (length c)
      (λ w. le w (met c ordered q w) (q w) (λ k. (met_parts c ordered q w k).1)) (f.least (met c ordered q) (met_fits q f.fits)) w
      (produced_in c w (f.fits.made w h)) in
      ⊎_elim (λ k. (met_parts c ordered q w k).0)
      (λ k. absurd (omega (arith, paid w, ap (λ b. cond b (price w) 0) h, ap (λ b. cond b (price w) 0) k)))
      (cases_Bool (met c ordered q w))
    where
      le : (w : ℕ) (a b : Bool) → (a ≡ true → b ≡ true) → cond a (price w) 0 ≤ cond b (price w) 0
      le w true true h = omega arith
      le w true false h = not_both (h refl) refl
      le w false true h = omega arith
      le w false false h = omega arith

  -- an earliest cut with no more wires ahead has no other wires
  same_half : ((w : ℕ) → 1 ≤ price w) → (p q : Wires) → EarliestCut c barred price p → EarliestCut c barred price q → (w : ℕ) → p w ≡ true → q w ≡ true
  same_half paid p q ep eq w h =
      ⊎_elim (λ k. k)
      (λ k. let f : Fed c p w = cheapest_met paid p ep.cheapest w h in
      let a : Ahead c q w = fed_ahead c q w (⊎_elim inl (λ t. inr (t.0, t.1, ep.first q eq.cheapest t.0 t.2)) f) k in
      not_both h (ahead_fed c p (eq.first p ep.cheapest w a)).1)
      (cases_Bool (q w))

both_same : (a b : Bool) → (a ≡ true → b ≡ true) → (b ≡ true → a ≡ true) → a ≡ b
both_same true true f h = refl
both_same true false f h = sym (f refl)
both_same false true f h = h refl
both_same false false f h = refl

pub earliest_cut_is_one : (c : List Making) → Ordered c → (barred : Wires) (price : ℕ → ℕ) → ((w : ℕ) → 1 ≤ price w)
    → (p q : Wires) → EarliestCut c barred price p → EarliestCut c barred price q → (w : ℕ) → p w ≡ q w
earliest_cut_is_one c ordered barred price paid p q ep eq w =
    both_same (p w) (q w) (same_half c ordered barred price paid p q ep eq w) (same_half c ordered barred price paid q p eq ep w)

-- what the search enters is produced
module _ (c : List Making) (barred : Wires) (price : ℕ → ℕ) (x : Flow) (flow : IsFlow c barred price x) where
  through_produced : (w : ℕ) → 0 < x.through w → produced (at c w) ≡ true
  through_produced w h =
      ⊎_elim
      (λ l. product_produced c w (flow.from_products w l))
      (λ l. let t : (v : ℕ) × (0 < x.along v w) = sum_positive (λ v. x.along v w) (ranks (length c)) (omega (arith, flow.enters w)) in
      passes_produced c w t.0 (flow.passed_on t.0 w t.1))
      (cases_lt 0 (x.start w))

  abbrev Made : Place → Type 0
  Made (entry w) = produced (at c w) ≡ true
  Made (exit w) = Unit {0}

  step_made : {a b : Place} → Step c barred price x a b → Made b
  step_made (pass_one s) = tt
  step_made (unpass_one {w = w} s) = through_produced w s
  step_made (send_on {v = v} {w = w} s) = passes_produced c w v s
  step_made (take_back s) = tt

  reached_made : {a : Place} → Reached c barred price x a → Made a
  reached_made (at_product {w = w} f) = product_produced c w f
  reached_made (by_step r s) = step_made s

pub border_earliest : (c : List Making) → Ordered c → (barred : Wires) (price : ℕ → ℕ) (x : Flow) → IsFlow c barred price x
    → (mark : Place → Bool) → Closed c barred price x mark → EarliestCut c barred price (border mark)
border_earliest c ordered barred price x flow mark closed =
    let t : IsCut c (border mark) × FreeOf barred (border mark) × (capacity c price (border mark) ≡ value c x) =
    border_is_full_cut c ordered barred price x flow mark closed in
    let fits : FreeCut c barred (border mark) =
    record {
      made = λ w h. reached_made c barred price x flow ((closed.exact (entry w)).0 (and_parts (mark (entry w)) (not (mark (exit w))) h).0);
      cut = t.0;
      free = t.1;
    } in
    record {
      cheapest = record {
        fits = fits;
        least = λ q f. omega (arith, t.2, flows_bound_cuts c ordered barred price x flow q f.cut f.free);
      };
      first = λ q f. border_is_earliest_cut c ordered barred price x flow mark closed q f.fits.cut f.fits.free
          (omega (arith, f.least (border mark) fits, t.2));
    }

-- a route's wires are in the circuit
joined_in : (c : List Making) (v : ℕ) (ws : List ℕ) → Joined c v ws → AllByRecursion (λ w. w < length c) ws
joined_in c v [] j = tt
joined_in c v (u ∷ us) j = (passes_in c u v j.0, joined_in c u us j.1)

route_in : (c : List Making) (r : List ℕ) → Route c r → AllByRecursion (λ w. w < length c) r
route_in c [] f = absurd f
route_in c (u ∷ us) f = (product_in c u f.0, joined_in c u us f.1)

-- no cut without barred wires has less capacity than there are routes that stand
pub standing_bounds_cuts : (c : List Making) (barred : Wires) (price : ℕ → ℕ)
    → (rs : List (List ℕ)) → Stand c barred price rs → (p : Wires) → IsCut c p → FreeOf barred p → length rs ≤ capacity c price p
standing_bounds_cuts c barred price rs stand p cut free =
    let ws : List ℕ = ranks (length c) in
    let met : AllByRecursion (λ r. 1 ≤ over c (λ w. cond (p w) (one_if (has w r)) 0)) rs =
    All-weaker (Route c) (λ r. 1 ≤ over c (λ w. cond (p w) (one_if (has w r)) 0))
    (λ r route.
    let t : (w : ℕ) × (p w ≡ true) × (has w r ≡ true) = hit_wire p r (cut r route) in
    omega (
      arith,
      term_le (λ w. cond (p w) (one_if (has w r)) 0) (length c) t.0 (all_has (λ w. w < length c) r (route_in c r route) t.0 t.2),
      ap₂ (λ a b. cond a (one_if b) 0) t.1 t.2,
    ))
    rs stand.0 in
    omega (
      arith,
      sum_ones rs,
      sum_le (λ r. 1) (λ r. over c (λ w. cond (p w) (one_if (has w r)) 0)) rs met,
      sum_swap (λ r w. cond (p w) (one_if (has w r)) 0) rs ws,
      sum_le (λ w. sum_of (λ r. cond (p w) (one_if (has w r)) 0) rs) (λ w. cond (p w) (price w) 0) ws
          (all_of (λ w. held w (p w) (λ h. stand.1 w (free w h))) ws),
    )
  where
    held : (w : ℕ) (b : Bool) → (b ≡ true → passing rs w ≤ price w) → sum_of (λ r. cond b (one_if (has w r)) 0) rs ≤ cond b (price w) 0
    held w true h = h refl
    held w false h = omega (arith, sum_none (λ r. cond false (one_if (has w r)) 0) rs (all_of (λ r. refl) rs))

-- rows of barred wires
row_ahead : (c : List Making) (p : Wires) (v : ℕ) (ws : List ℕ) → Ahead c p v → Joined c v ws → AllByRecursion (λ w. p w ≡ false) ws → Ahead c p (last v ws)
row_ahead c p v [] a j n = a
row_ahead c p v (w ∷ ws) a j n = row_ahead c p w ws (goes_on a j.0 n.0) j.1 n.1

missed : (barred : Wires) (r : List ℕ) → (Hits (λ v. not (barred v)) r → ⊥) → AllByRecursion (λ w. barred w ≡ true) r
missed barred [] h = tt
missed barred (w ∷ ws) h = (⊎_elim (λ k. k) (λ k. absurd (h (inl (ap not k)))) (cases_Bool (barred w)), missed barred ws (λ k. h (inr k)))

pub blocked_is_barred_row : BlockedIsBarredRow
blocked_is_barred_row c barred = (λ b. there b.0 b.1 b.2, λ t. back t)
  where
    p : Wires
    p = λ v. not (barred v)

    there : (r : List ℕ) → Route c r → AllByRecursion (λ w. barred w ≡ true) r → (w : ℕ) × Ends c w × Ahead c p w
    there [] f h = absurd f
    there (w ∷ ws) f h =
        (last w ws, f.2, row_ahead c p w ws (starts f.0 (ap not h.0)) f.1 (All-weaker (λ w. barred w ≡ true) (λ w. p w ≡ false) (λ w k. ap not k) ws h.1))

    back : (w : ℕ) × Ends c w × Ahead c p w → Blocked c barred
    back t = let r : (r : List ℕ) × Route c r × (Hits p r → ⊥) = ahead_route c p t.2 [] tt (λ y. y) t.1 in (r.0, r.1, missed barred r.0 r.2)

-- places are told apart
same_place? : (a b : Place) → (a ≡ b) ⊎ (a ≡ b → ⊥)
same_place? a b =
    ⊎_elim (λ h. inl (same_from a b h)) (λ h. inr (λ e. not_both (subst (λ p. same? a p ≡ true) e (same_self a)) h)) (cases_Bool (same? a b))

module _ (c : List Making) (barred : Wires) (price : ℕ → ℕ) (x : Flow) where
  -- a place is on the trail, and then has a shorter one, or is not
  on_trail : {a : Place} {ps : List Place} → Trail c barred price x a ps → (b : Place)
      → ((qs : List Place) × Trail c barred price x b qs) ⊎ AllByRecursion (λ p. p ≡ b → ⊥) (a ∷ ps)
  on_trail (begun {w = w} f) b =
      ⊎_elim (λ e. inl ([], subst (λ p. Trail c barred price x p []) e (begun f))) (λ n. inr (n, tt)) (same_place? (entry w) b)
  on_trail (after {a = a} {b = p} {ps = ps} t s m) b =
      ⊎_elim (λ e. inl (a ∷ ps, subst (λ p. Trail c barred price x p (a ∷ ps)) e (after t s m)))
      (λ n. ⊎_elim inl (λ k. inr (n, k)) (on_trail t b)) (same_place? p b)

  pub reached_trail : {a : Place} → Reached c barred price x a → (ps : List Place) × Trail c barred price x a ps
  reached_trail (at_product f) = ([], begun f)
  reached_trail (by_step {a = a} {b = b} r s) =
      let t : (ps : List Place) × Trail c barred price x a ps = reached_trail r in
      ⊎_elim (λ q. q) (λ n. (a ∷ t.0, after t.1 s n)) (on_trail t.1 b)

-- the rows of n units from i on
all_traces : (c : List Making) → Ordered c → (barred : Wires) (price : ℕ → ℕ) (x : Flow) → IsFlow c barred price x → (n i : ℕ) → i + n ≤ value c x
    → (rs : List (List ℕ)) × Traces x i rs × (length rs ≡ n)
all_traces c ordered barred price x flow zero i h = ([], tt, refl)
all_traces c ordered barred price x flow (suc n) i h =
    let t : (rs : List (List ℕ)) × Traces x (suc i) rs × (length rs ≡ n) = all_traces c ordered barred price x flow n (suc i) (omega arith) in
    let u : (r : List ℕ) × Traced x i r = units_have_rows c ordered barred price x flow i (omega arith) in
    (u.0 ∷ t.0, (u.1, t.1), ap suc t.2)

pub flows_split_into_routes : FlowsSplitIntoRoutes
flows_split_into_routes c ordered barred price x flow =
    let t : (rs : List (List ℕ)) × Traces x 0 rs × (length rs ≡ value c x) = all_traces c ordered barred price x flow (value c x) 0 (omega arith) in
    (t.0, traces_are_routes c ordered barred price x flow t.0 t.1, t.2)

-- sums over fewer ranks
prefix_sum : (f : ℕ → ℕ) (m n : ℕ) → m ≤ n → sum_of f (ranks m) ≤ sum_of f (ranks n)
prefix_sum f m zero h = subst (λ k. sum_of f (ranks k) ≤ 0) (sym (none m h)) (omega arith)
  where
    none : (m : ℕ) → m ≤ 0 → m ≡ 0
    none m h = omega arith
prefix_sum f m (suc n) h =
    ⊎_elim (λ (l : m < suc n). omega (arith, prefix_sum f m n (omega arith))) (λ l. subst (λ k. sum_of f (ranks k) ≤ f n + sum_of f (ranks n)) (same l) (omega arith)) (cases_lt m (suc n))
  where
    same : suc n ≤ m → suc n ≡ m
    same l = omega arith

short_sum : (f : ℕ → ℕ) (m n : ℕ) → m ≤ n → ((v : ℕ) → m ≤ v → f v ≡ 0) → sum_of f (ranks n) ≤ sum_of f (ranks m)
short_sum f m zero h z = omega arith
short_sum f m (suc n) h z =
    ⊎_elim (λ (l : m < suc n). omega (arith, z n (omega arith), short_sum f m n (omega arith) z)) (λ l. subst (λ k. f n + sum_of f (ranks n) ≤ sum_of f (ranks k)) (same l) (omega arith)) (cases_lt m (suc n))
  where
    same : suc n ≤ m → suc n ≡ m
    same l = omega arith

module _ (c : List Making) (ordered : Ordered c) (barred : Wires) (price : ℕ → ℕ) (x : Flow) (flow : IsFlow c barred price x) where
  -- over the wires up to w: what enters begins there or leaves a lower one
  upto : (w : ℕ) → w < length c → x.through w ≤ value c x
  upto w h =
      let n : ℕ = length c in
      let us : List ℕ = ranks (suc w) in
      let into : sum_of x.through us ≤ sum_of (λ u. x.start u + sum_of (λ v. x.along v u) (ranks w)) us =
      sum_le x.through (λ u. x.start u + sum_of (λ v. x.along v u) (ranks w)) us
      (all_ranks (suc w) (λ u l. omega (
        arith,
        flow.enters u,
        short_sum (λ v. x.along v u) w n (omega arith) (λ v k. nothing v u (omega arith)),
      ))) in
      let out_of : sum_of (λ v. sum_of (λ u. x.along v u) us) (ranks w) ≤ sum_of x.through (ranks w) =
      sum_le (λ v. sum_of (λ u. x.along v u) us) x.through (ranks w)
      (all_of (λ v. omega (arith, flow.leaves v, prefix_sum (λ u. x.along v u) (suc w) n h)) (ranks w)) in
      omega (
        arith,
        into,
        out_of,
        sum_add x.start (λ u. sum_of (λ v. x.along v u) (ranks w)) us,
        sum_swap (λ v u. x.along v u) (ranks w) us,
        prefix_sum x.start (suc w) n h,
      )
    where
      nothing : (v u : ℕ) → u ≤ v → x.along v u ≡ 0
      nothing v u k =
          ⊎_elim (λ l. absurd (omega (arith, operand_lower c ordered u v (passes_operand c u v (flow.passed_on v u l))))) (λ l. omega arith) (cases_lt 0 (x.along v u))

  through_value : (w : ℕ) → x.through w ≤ value c x
  through_value w =
      ⊎_elim (upto w)
      (λ l. ⊎_elim (λ k. absurd (omega (arith, produced_in c w (through_produced c barred price x flow w k)))) (λ k. omega arith) (cases_lt 0 (x.through w)))
      (cases_lt w (length c))

-- unless blocked, all unbarred wires are a cut
unbarred_hits : (barred : Wires) (r : List ℕ) → Hits (λ v. not (barred v)) r ⊎ AllByRecursion (λ w. barred w ≡ true) r
unbarred_hits barred [] = inr tt
unbarred_hits barred (w ∷ ws) =
    ⊎_elim (λ k. ⊎_elim (λ h. inl (inr h)) (λ h. inr (k, h)) (unbarred_hits barred ws)) (λ k. inl (inl (ap not k))) (cases_Bool (barred w))

pub flows_are_small : FlowsAreSmall
flows_are_small c ordered barred price x flow = (
  through_value c ordered barred price x flow,
  λ open-for.
      omega (
        arith,
        flows_bound_cuts c ordered barred price x flow (λ v. not (barred v))
            (λ r f. ⊎_elim (λ h. h) (λ h. absurd (open-for (r, f, h))) (unbarred_hits barred r)) (λ w h. not-true (barred w) h),
        sum_le (λ w. cond (not (barred w)) (price w) 0) price (ranks (length c)) (all_of (λ w. cond_le (not (barred w)) (price w)) (ranks (length c))),
      ),
)
