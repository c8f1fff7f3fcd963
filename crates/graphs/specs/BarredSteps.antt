-- The steps of the barred graph.
use Rattle.std.specs.Prelude.{◌≡◌, ℕ, ◌<◌, ◌&&◌, List, [], length, nat_lt, slice_index, refl}
use Rattle.std.proofs.Common.{arith, sym, ◌∙◌, ap, subst}
use Rattle.std.proofs.lemmas.List.FromFn.{get_or-map-range_with_len, length-map-range_with_len}
use Rattle.std.proofs.lemmas.List.{get_or-map, length-map}
use Rattle.std.proofs.lemmas.Bool.{cond_both, and_parts, ltb-true}
use Rattle.search.specs.Graphs.{row, Inside}
use Rattle.rows.specs.Held.{bars_of}
use Rattle.graphs.specs.Fronts.{lists_of}
use Rattle.graphs.specs.Meanings.{barred_step, barred_steps, barred_graph}

module _ (n : ℕ) (f : List ℕ) where
  barred_row : (p : ℕ) → p < n → row ((barred_graph n).steps f) p ≡ barred_steps n f p
  barred_row p h = get_or-map-range_with_len (barred_steps n f) 0 n p p [] h (omega arith)

  pub barred_long : (p : ℕ) → p < n → length (row ((barred_graph n).steps f) p) ≡ length (lists_of n f p)
  barred_long p h = ap length (barred_row p h) ∙ length-map (lists_of n f p) (barred_step n f p)

  pub barred_leads : (p i u : ℕ) → p < n → i < length (row ((barred_graph n).steps f) p) → u ≡ slice_index (lists_of n f p) i
      → slice_index (row ((barred_graph n).steps f) p) i ≡ barred_step n f p u
  barred_leads p i u h l e =
      ap (λ xs. slice_index xs i) (barred_row p h) ∙ get_or-map (barred_step n f p) (lists_of n f p) i 0 0 (omega (arith, l, barred_long p h)) ∙ ap (barred_step n f p) (sym e)

  stays_inside : (p w : ℕ) → p < n → barred_step n f p w < n
  stays_inside p w h = cond_both (nat_lt w n && bars_of f n w) w p (λ x. x < n) (λ e. ltb-true w n (and_parts (nat_lt w n) (bars_of f n w) e).0) (λ e. h)

  pub barred_lies_inside : Inside n ((barred_graph n).steps f)
  barred_lies_inside =
      record {
        many = length-map-range_with_len (barred_steps n f) 0 n;
        leads = λ p i h l. subst (λ x. x < n) (sym (barred_leads p i (slice_index (lists_of n f p) i) h l refl)) (stays_inside p (slice_index (lists_of n f p) i) h);
      }
