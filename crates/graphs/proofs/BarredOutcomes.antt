-- What a search over the barred graph decides.
use Rattle.std.proofs.Common.{◌≡◌, ℕ, zero, suc, ◌+◌, ◌-◌, ◌*◌, ◌<◌, ◌≤◌, true, not, ◌&&◌, eqb, ltb, List, map, length, get_or, sym, refl, ap, ◌∙◌, subst, ⊎_elim, add-one, arith}
use Rattle.std.specs.List.{range_with_len, AllByRecursion}
use Rattle.std.proofs.lemmas.Bool.{true≢false, cases_Bool, and_parts, and_from, cond-true, cond-false, eqb-true, eq-eqb, lt-ltb, ltb-true, not-false}
use Rattle.circuits.specs.declared.making.Making.{Making}
use Rattle.routes.specs.Routes.{Multiplies, IsProduct, Passes, Ordered, Joined, last, Ends, Route, Ahead, starts, goes_on}
use Rattle.routes.specs.Plans.{Blocked}
use Rattle.routes.proofs.Wires.{product_in, passes_in}
use Rattle.routes.proofs.Cuts.{blocked_is_barred_row}
use Rattle.search.specs.Graphs.{row, Step, Reaches, start, onward}
use Rattle.search.specs.Rows.{stacked}
use Rattle.search.specs.Searches.{Reached, Missed}
use Rattle.rows.specs.Rows.{cell}
use Rattle.rows.specs.Held.{making, bars_of}
use Rattle.rows.specs.Fed.{fed, Loaded}
use Rattle.rows.proofs.Feeding.{In, fed_right, fed_all}
use Rattle.rows.proofs.HeldCircuit.{circuit_at}
use Rattle.graphs.specs.Fronts.{front_of, lists_of}
use Rattle.graphs.specs.Meanings.{barred_step, barred_graph, barred_chosen, barred_goal}
use Rattle.graphs.specs.Outcomes.{stack_list, BarredDecides}
use Rattle.graphs.proofs.Fronts.{cell_in_front, lists_are_fed, loaded_by_front}
use Rattle.graphs.specs.BarredSteps.{barred_long, barred_leads}

-- numbers in a row, each of which passes on the one before it
module _ (c : List Making) (s : ℕ → ℕ) where
  all_joined : (a k : ℕ) → ((j : ℕ) → a ≤ j → j < a + k → Passes c (s (j + 1)) (s j)) → Joined c (s a) (map s (range_with_len (a + 1) k))
  all_joined a zero h = tt
  all_joined a (suc k) h = (h a (omega arith) (omega arith), all_joined (a + 1) k (λ j l u. h j (omega arith) (omega arith)))

  last_joined : (a k : ℕ) → last (s a) (map s (range_with_len (a + 1) k)) ≡ s (a + k)
  last_joined a zero = ap s (omega arith)
  last_joined a (suc k) = last_joined (a + 1) k ∙ ap s (omega arith)

  all_counted : (P : ℕ → Type 0) (a k : ℕ) → ((j : ℕ) → a ≤ j → j < a + k → P (s j)) → AllByRecursion P (map s (range_with_len a k))
  all_counted P a zero h = tt
  all_counted P a (suc k) h = (h a (omega arith) (omega arith), all_counted P (a + 1) k (λ j l u. h j (omega arith) (omega arith)))

-- products by their kind
product_kind : (k a b : ℕ) → Multiplies (making k a b) → k ≡ 4
product_kind zero a b f = absurd f
product_kind (suc zero) a b f = absurd f
product_kind (suc (suc zero)) a b f = absurd f
product_kind (suc (suc (suc zero))) a b f = absurd f
product_kind (suc (suc (suc (suc zero)))) a b f = refl
product_kind (suc (suc (suc (suc (suc k))))) a b f = absurd f

module _ (c : List Making) (n : ℕ) (m : List ℕ) (ordered : Ordered c) (long : length c ≡ n) (loaded : Loaded c n m) where
  abbrev front : List ℕ
  front = front_of n m

  abbrev lists : List (List ℕ)
  lists = (barred_graph n).steps front

  barred_same : (w : ℕ) → bars_of front n w ≡ bars_of m n w
  barred_same w = ap (ltb 0) (cell_in_front n m 3 w (omega arith))

  chosen_product : (w : ℕ) → barred_chosen n front w ≡ true → (bars_of m n w ≡ true) × IsProduct c w
  chosen_product w h =
      let t = and_parts (bars_of front n w) (eqb (cell front n 0 w) 4) h in
      let kind : cell m n 0 w ≡ 4 = sym (cell_in_front n m 0 w (omega arith)) ∙ eqb-true (cell front n 0 w) 4 t.1 in (
        sym (barred_same w) ∙ t.0,
        subst (λ d. IsProduct d w) loaded.circuit
            (subst Multiplies (sym (circuit_at m n w ∙ ap (λ k. making k (cell m n 1 w) (cell m n 2 w)) kind)) tt),
      )

  product_chosen : (w : ℕ) → bars_of m n w ≡ true → IsProduct c w → barred_chosen n front w ≡ true
  product_chosen w b p =
      and_from (bars_of front n w) (eqb (cell front n 0 w) 4) (barred_same w ∙ b)
      (eq-eqb (cell front n 0 w) 4
      (cell_in_front n m 0 w (omega arith)
      ∙ product_kind (cell m n 0 w) (cell m n 1 w) (cell m n 2 w) (subst Multiplies (circuit_at m n w) (subst (λ d. IsProduct d w) (sym loaded.circuit) p))))

  goal_ends : (w : ℕ) → barred_goal n front w ≡ true → Ends c w
  goal_ends w h =
      let t = and_parts (bars_of front n w) (ltb 0 (cell front n 4 w)) h in
      (loaded.goals w).0 (subst (λ k. 0 < k) (cell_in_front n m 4 w (omega arith)) (ltb-true 0 (cell front n 4 w) t.1))

  ends_goal : (w : ℕ) → bars_of m n w ≡ true → Ends c w → barred_goal n front w ≡ true
  ends_goal w b e =
      and_from (bars_of front n w) (ltb 0 (cell front n 4 w)) (barred_same w ∙ b)
      (lt-ltb 0 (cell front n 4 w) (subst (λ k. 0 < k) (sym (cell_in_front n m 4 w (omega arith))) ((loaded.goals w).1 e)))

  -- a step to another wire leads to a barred one that passes on
  leads_on : (v q w : ℕ) → In w (fed c v) → barred_step n front v w ≡ q → (v ≡ q → ⊥) → Passes c q v × (bars_of m n q ≡ true)
  leads_on v q w i e ne =
      ⊎_elim
      (λ h. let same : w ≡ q = sym (cond-true (ltb w n && bars_of front n w) w v h) ∙ e in (
        subst (λ u. Passes c u v) same (fed_right c v w i),
        subst (λ u. bars_of m n u ≡ true) same (sym (barred_same w) ∙ (and_parts (ltb w n) (bars_of front n w) h).1),
      ))
      (λ h. absurd (ne (sym (cond-false (ltb w n && bars_of front n w) w v h) ∙ e)))
      (cases_Bool (ltb w n && bars_of front n w))

  step_leads : (v q : ℕ) → v < n → Step lists v q → (v ≡ q → ⊥) → Passes c q v × (bars_of m n q ≡ true)
  step_leads v q l s ne =
      let i = s.0 in
      let w = get_or (lists_of n front v) i 0 in
      let there : In w (lists_of n front v) = (i, omega (arith, s.1, barred_long n front v l), refl) in
      leads_on v q w (subst (In w) (lists_are_fed c n m ordered long loaded v) there) (sym (barred_leads n front v i w l s.1 refl) ∙ s.2) ne

  leads_step : (v w : ℕ) → v < n → Passes c w v → bars_of m n w ≡ true → Step lists v w
  leads_step v w l p b =
      let t : In w (lists_of n front v) = subst (In w) (sym (lists_are_fed c n m ordered long loaded v)) (fed_all c v w p) in
      let within : t.0 < length (row lists v) = omega (arith, t.1, barred_long n front v l) in (
        t.0,
        within,
        barred_leads n front v t.0 w l within (sym t.2)
            ∙ cond-true (ltb w n && bars_of front n w) w v (and_from (ltb w n) (bars_of front n w) (lt-ltb w n (omega (arith, passes_in c w v p))) (barred_same w ∙ b)),
      )

  module _ (h : ℕ) (t : Reached lists (barred_goal n front) (barred_chosen n front) (13 * n) n m h) where
    abbrev at_height : ℕ → ℕ
    at_height k = stacked (13 * n) n m k

    goes : (k : ℕ) → k + 1 < h → Passes c (at_height (k + 1)) (at_height k) × (bars_of m n (at_height (k + 1)) ≡ true)
    goes k l = step_leads (at_height k) (at_height (k + 1)) (t.below k (omega arith)) (t.path.steps k l) (t.path.apart k (k + 1) (omega arith) l)

    all_barred : (k : ℕ) → k < h → bars_of m n (at_height k) ≡ true
    all_barred zero l = (chosen_product (at_height 0) (t.path.first l)).0
    all_barred (suc k) l = subst (λ j. bars_of m n (at_height j) ≡ true) (add-one k) (goes k (omega arith)).1

    is_route : (k : ℕ) → h ≡ suc k → Route c (map at_height (range_with_len 0 (suc k)))
    is_route k e = (
      (chosen_product (at_height 0) (t.path.first t.some)).1,
      all_joined c at_height 0 k (λ j a b. (goes j (omega arith)).0),
      subst (Ends c) (ap at_height (omega arith) ∙ sym (last_joined c at_height 0 k)) (goal_ends (at_height (h - 1)) t.last),
    )

    route_here : Route c (stack_list n m h) × AllByRecursion (λ w. bars_of m n w ≡ true) (stack_list n m h)
    route_here =
        let e : h ≡ suc (h - 1) = omega (arith, t.some) in (
          subst (λ k. Route c (map at_height (range_with_len 0 k))) (sym e) (is_route (h - 1) e),
          all_counted c at_height (λ w. bars_of m n w ≡ true) 0 h (λ j a b. all_barred j (omega arith)),
        )

  ahead_reaches : {w : ℕ} → Ahead c (λ v. not (bars_of m n v)) w → (w < n) × (bars_of m n w ≡ true) × Reaches n lists (barred_chosen n front) w
  ahead_reaches (starts {w = w} p b) =
      let l : w < n = omega (arith, product_in c w p) in
      (l, not-false (bars_of m n w) b, start l (product_chosen w (not-false (bars_of m n w) b) p))
  ahead_reaches (goes_on {v = v} {w = w} a p b) =
      let r : (v < n) × (bars_of m n v ≡ true) × Reaches n lists (barred_chosen n front) v = ahead_reaches a in
      (omega (arith, passes_in c w v p), not-false (bars_of m n w) b, onward r.2 (leads_step v w r.0 p (not-false (bars_of m n w) b)))

  none_here : Missed lists (barred_goal n front) (barred_chosen n front) (13 * n) n m → Blocked c (bars_of m n) → ⊥
  none_here t b =
      let k : (w : ℕ) × Ends c w × Ahead c (λ v. not (bars_of m n v)) w = (blocked_is_barred_row c (bars_of m n)).0 b in
      let r : (k.0 < n) × (bars_of m n k.0 ≡ true) × Reaches n lists (barred_chosen n front) k.0 = ahead_reaches k.2 in
      true≢false (sym (ends_goal k.0 r.1 k.1) ∙ t.none k.0 r.2)

pub barred_decides : BarredDecides
barred_decides c n m m' ordered long loaded = (
  λ h t. route_here c n m' ordered long (loaded_by_front c n m m' long t.rows.front loaded) h
      (subst (λ f. Reached ((barred_graph n).steps f) (barred_goal n f) (barred_chosen n f) (13 * n) n m' h) (sym t.rows.front) t.reached),
  λ t. none_here c n m' ordered long (loaded_by_front c n m m' long t.rows.front loaded)
      (subst (λ f. Missed ((barred_graph n).steps f) (barred_goal n f) (barred_chosen n f) (13 * n) n m') (sym t.rows.front) t.missed),
)
