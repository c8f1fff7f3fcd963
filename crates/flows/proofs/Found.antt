-- What a search over the steps by number gives.
use Rattle.std.proofs.Common.{◌≡◌, ℕ, zero, suc, ◌+◌, ◌-◌, ◌*◌, ◌/◌, ◌%◌, ◌<◌, true, not, eqb, ltb, ◌⊎◌, List, get_or, sym, refl, ap, ◌∙◌, subst, subst₂, ⊎_elim, add-one, arith}
use Rattle.std.proofs.lemmas.Bool.{true≢false, cases_Bool, and_parts, and_from, eqb-true, eqb-false, eq-eqb, ne_eqb, lt-ltb, ltb-true, not-true}
use Rattle.routes.specs.Routes.{Multiplies, IsProduct, Ordered, Ends}
use Rattle.routes.specs.Plans.{ones}
use Rattle.routes.specs.Residuals.{Place, entry, exit, Step, Reached, at_product, by_step}
use Rattle.routes.proofs.Wires.{product_in}
use Rattle.rows.specs.Rows.{cell}
use Rattle.rows.specs.Held.{making, circuit_of, bars_of}
use Rattle.flows.specs.Kept.{flow_in}
use Rattle.flows.specs.Stacks.{place, numbered, stacked}
use Rattle.flows.specs.Residual.{In, residual, Feeds}
use Rattle.flows.specs.Found.{chosen, goal, Goals, Comes, start, onward, marks, FoundIsStack, MissedIsClosed}
use Rattle.rows.proofs.HeldCircuit.{circuit_at}
use Rattle.flows.proofs.Kept.{wires_at_most}
use Rattle.flows.proofs.Steps.{place_even, place_odd}
use Rattle.flows.proofs.Residual.{residual_steps, even_half, even_rest, odd_half, odd_rest}

-- products by their kind
product_kind : (k a b : ℕ) → Multiplies (making k a b) → k ≡ 4
product_kind zero a b f = absurd f
product_kind (suc zero) a b f = absurd f
product_kind (suc (suc zero)) a b f = absurd f
product_kind (suc (suc (suc zero))) a b f = absurd f
product_kind (suc (suc (suc (suc zero)))) a b f = refl
product_kind (suc (suc (suc (suc (suc k))))) a b f = absurd f

module _ (m : List ℕ) (n : ℕ) where
  chosen_product : (p : ℕ) → chosen m n p ≡ true → (place p ≡ entry (p / 2)) × IsProduct (circuit_of m n) (p / 2)
  chosen_product p h =
      let t : (eqb (p % 2) 0 ≡ true) × (eqb (cell m n 0 (p / 2)) 4 ≡ true) = and_parts (eqb (p % 2) 0) (eqb (cell m n 0 (p / 2)) 4) h in (
        place_even p (eqb-true (p % 2) 0 t.0),
        subst Multiplies (sym (circuit_at m n (p / 2) ∙ ap (λ k. making k (cell m n 1 (p / 2)) (cell m n 2 (p / 2))) (eqb-true (cell m n 0 (p / 2)) 4 t.1))) tt,
      )

  product_chosen : (w : ℕ) → IsProduct (circuit_of m n) w → chosen m n (2 * w) ≡ true
  product_chosen w f =
      and_from (eqb ((2 * w) % 2) 0) (eqb (cell m n 0 ((2 * w) / 2)) 4) (eq-eqb ((2 * w) % 2) 0 (even_rest w))
      (eq-eqb (cell m n 0 ((2 * w) / 2)) 4 (ap (cell m n 0) (even_half w) ∙ product_kind (cell m n 0 w) (cell m n 1 w) (cell m n 2 w) (subst Multiplies (circuit_at m n w) f)))

  goal_ends : Goals m n → (p : ℕ) → goal m n p ≡ true → (place p ≡ exit (p / 2)) × Ends (circuit_of m n) (p / 2)
  goal_ends g p h =
      let t : (not (eqb (p % 2) 0) ≡ true) × (ltb 0 (cell m n 4 (p / 2)) ≡ true) = and_parts (not (eqb (p % 2) 0)) (ltb 0 (cell m n 4 (p / 2))) h in
      (place_odd p (eqb-false (p % 2) 0 (not-true (eqb (p % 2) 0) t.0)), (g (p / 2)).0 (ltb-true 0 (cell m n 4 (p / 2)) t.1))

  ends_goal : Goals m n → (w : ℕ) → Ends (circuit_of m n) w → goal m n (2 * w + 1) ≡ true
  ends_goal g w f =
      and_from (not (eqb ((2 * w + 1) % 2) 0)) (ltb 0 (cell m n 4 ((2 * w + 1) / 2)))
      (ap not (ne_eqb ((2 * w + 1) % 2) 0 (odd_rest w)))
      (ap (λ u. ltb 0 (cell m n 4 u)) (odd_half w) ∙ lt-ltb 0 (cell m n 4 w) ((g w).1 f))

  place_numbered : (a : Place) → place (numbered a) ≡ a
  place_numbered (entry w) = place_even (2 * w) (even_rest w) ∙ ap entry (even_half w)
  place_numbered (exit w) = place_odd (2 * w + 1) (odd_rest w) ∙ ap exit (odd_half w)

pub found_is_stack : FoundIsStack
found_is_stack m n feeds ordered f g h t =
    record {
      some = t.some;
      low = t.low;
      within = t.below;
      apart = t.apart;
      starts = (stacked m n 0 / 2, (chosen_product m n (stacked m n 0) t.first).0, (chosen_product m n (stacked m n 0) t.first).1);
      steps = λ i l. step i l ((residual_steps m n feeds ordered f (stacked m n i) (stacked m n (suc i))).0
          (subst (λ j. In (stacked m n j) (residual m n feeds (stacked m n i))) (add-one i) (t.steps i (omega arith))));
      ends = (stacked m n (h - 1) / 2, (goal_ends m n g (stacked m n (h - 1)) t.last).0, (goal_ends m n g (stacked m n (h - 1)) t.last).1);
    }
  where
    step : (i : ℕ) → suc i < h → (stacked m n (suc i) ≡ stacked m n i) ⊎ Step (circuit_of m n) (bars_of m n) ones (flow_in m n) (place (stacked m n i)) (place (stacked m n (suc i)))
        → Step (circuit_of m n) (bars_of m n) ones (flow_in m n) (place (stacked m n i)) (place (stacked m n (suc i)))
    step i l s = ⊎_elim (λ e. absurd (t.apart i (suc i) (omega arith) l (sym e))) (λ s. s) s

module _ (m : List ℕ) (n : ℕ) (feeds : ℕ → List ℕ) (ordered : Ordered (circuit_of m n)) (f : Feeds m n feeds) where
  abbrev Gets : Place → Type 0
  Gets a = Reached (circuit_of m n) (bars_of m n) ones (flow_in m n) a

  comes_reached : {p : ℕ} → Comes m n feeds p → Gets (place p)
  comes_reached (start {q = q} l h) = subst Gets (sym (chosen_product m n q h).0) (at_product (chosen_product m n q h).1)
  comes_reached (onward {p = p} {q = q} c i) =
      ⊎_elim (λ e. subst (λ k. Gets (place k)) (sym e) (comes_reached c)) (λ s. by_step (comes_reached c) s) ((residual_steps m n feeds ordered f p q).0 i)

  reached_comes : {a : Place} → Gets a → Comes m n feeds (numbered a)
  reached_comes (at_product {w = w} p) =
      start (omega (arith, product_in (circuit_of m n) w p, wires_at_most m n)) (product_chosen m n w p)
  reached_comes (by_step {a = a} {b = b} r s) =
      onward (reached_comes r)
      ((residual_steps m n feeds ordered f (numbered a) (numbered b)).1
      (subst₂ (λ a b. Step (circuit_of m n) (bars_of m n) ones (flow_in m n) a b) (sym (place_numbered m n a)) (sym (place_numbered m n b)) s))

pub missed_is_closed : MissedIsClosed
missed_is_closed m n feeds ordered f g t =
    record {
      exact = λ a. (
        λ h. let k : (ltb (numbered a) (2 * n) ≡ true) × (ltb 0 (get_or m (13 * n + numbered a) 0) ≡ true) = and_parts (ltb (numbered a) (2 * n)) (ltb 0 (get_or m (13 * n + numbered a) 0)) h in
            subst (Reached (circuit_of m n) (bars_of m n) ones (flow_in m n)) (place_numbered m n a)
            (comes_reached m n feeds ordered f (t.sound (numbered a) (ltb-true (numbered a) (2 * n) k.0) (ltb-true 0 (get_or m (13 * n + numbered a) 0) k.1))),
        λ r. marked a (reached_comes m n feeds ordered f r),
      );
      ended = λ w e. ⊎_elim
          (λ h. absurd (true≢false (sym (ends_goal m n g w e) ∙ t.none (2 * w + 1) (from_mark (exit w) h))))
          (λ h. h) (cases_Bool (marks m n (exit w)));
    }
  where
    marked : (a : Place) → Comes m n feeds (numbered a) → marks m n a ≡ true
    marked a c =
        and_from (ltb (numbered a) (2 * n)) (ltb 0 (get_or m (13 * n + numbered a) 0)) (lt-ltb (numbered a) (2 * n) (t.complete (numbered a) c).0)
        (lt-ltb 0 (get_or m (13 * n + numbered a) 0) (t.complete (numbered a) c).1)

    from_mark : (a : Place) → marks m n a ≡ true → Comes m n feeds (numbered a)
    from_mark a h =
        let k : (ltb (numbered a) (2 * n) ≡ true) × (ltb 0 (get_or m (13 * n + numbered a) 0) ≡ true) = and_parts (ltb (numbered a) (2 * n)) (ltb 0 (get_or m (13 * n + numbered a) 0)) h in
        t.sound (numbered a) (ltb-true (numbered a) (2 * n) k.0) (ltb-true 0 (get_or m (13 * n + numbered a) 0) k.1)
