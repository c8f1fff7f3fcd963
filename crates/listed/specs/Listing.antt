-- What the numbers of a graph say of its lists.
use Rattle.std.specs.Prelude.{◌≡◌, ℕ, ◌+◌, ◌-◌, ◌*◌, ◌<◌, List, [], length, take, nat_lt, slice_index, slice_index_or}
use Rattle.std.proofs.Common.{sym, ap, subst, ◌∙◌, arith, get_or-take}
use Rattle.std.proofs.lemmas.List.FromFn.{get_or-map-range_with_len, length-map-range_with_len}
use Rattle.std.proofs.lemmas.Bool.{cond_both, ltb-true}
use Rattle.search.specs.Graphs.{row, Inside}
use Rattle.listed.specs.Lists.{size, start, stop, led, step_at, steps_of, listed}

led_inside : (n p q : ℕ) → p < n → led n p q < n
led_inside n p q h = cond_both (nat_lt q n) q p (λ x. x < n) (λ e. ltb-true q n e) (λ e. h)

module _ (n t : ℕ) (f : List ℕ) where
  row_is : (p : ℕ) → p < n → row ((listed n t).steps f) p ≡ steps_of n t f p
  row_is p h = get_or-map-range_with_len (steps_of n t f) 0 n p p [] h (omega arith)

  pub degree_is : (p : ℕ) → p < n → length (row ((listed n t).steps f) p) ≡ stop n t f p - start n f p
  degree_is p h = ap length (row_is p h) ∙ length-map-range_with_len (step_at n f p) 0 (stop n t f p - start n f p)

  pub step_is : (p i : ℕ) → p < n → i < length (row ((listed n t).steps f) p) → slice_index (row ((listed n t).steps f) p) i ≡ step_at n f p i
  step_is p i h l =
      ap (λ x. slice_index x i) (row_is p h) ∙ get_or-map-range_with_len (step_at n f p) 0 (stop n t f p - start n f p) i i 0 (omega (arith, l, degree_is p h)) (omega arith)

  pub listed_inside : Inside n ((listed n t).steps f)
  listed_inside =
      record {
        many = length-map-range_with_len (steps_of n t f) 0 n;
        leads = λ p i h l. subst (λ x. x < n) (sym (step_is p i h l)) (led_inside n p (slice_index f (2 * n + 1 + (start n f p + i))) h);
      }

-- the numbers in front are those of the memory
module _ (n t : ℕ) (m : List ℕ) (p : ℕ) (inside : p < n) where
  pub start_in : start n (take (size n t) m) p ≡ slice_index m (n + p)
  start_in = get_or-take (size n t) m (n + p) 0 (omega arith)

  pub stop_in : slice_index_or (take (size n t) m) (n + p + 1) 0 ≡ slice_index m (n + p + 1)
  stop_in = get_or-take (size n t) m (n + p + 1) 0 (omega arith)

  -- a step lies among the targets
  pub target_in : (i : ℕ) → i < length (row ((listed n t).steps (take (size n t) m)) p) → slice_index m (n + p) + i < t
  target_in i l = omega (arith, l, degree_is n t (take (size n t) m) p inside, start_in)

  -- where a step leads, by the memory
  pub step_in : (i : ℕ) → i < length (row ((listed n t).steps (take (size n t) m)) p)
      → slice_index (row ((listed n t).steps (take (size n t) m)) p) i ≡ led n p (slice_index m (2 * n + 1 + (slice_index m (n + p) + i)))
  step_in i l =
      step_is n t (take (size n t) m) p i inside l
      ∙ ap (λ s. led n p (slice_index (take (size n t) m) (2 * n + 1 + (s + i)))) start_in
      ∙ ap (led n p) (get_or-take (size n t) m (2 * n + 1 + (slice_index m (n + p) + i)) 0 (omega (arith, target_in i l)))
