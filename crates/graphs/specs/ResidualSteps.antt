-- The steps of the residual graph, by the sides of wires.
use Rattle.std.specs.Prelude.{◌≡◌, ℕ, suc, ◌+◌, ◌-◌, ◌*◌, ◌/◌, ◌%◌, ◌<◌, cond, List, [], length, ◌≢◌, nat_lt, slice_index, refl}
use Rattle.std.proofs.Common.{arith, sym, ◌∙◌, subst}
use Rattle.std.proofs.Math.Path.{ap}
use Rattle.std.proofs.lemmas.List.FromFn.{get_or-map-range_with_len, length-map-range_with_len}
use Rattle.std.proofs.lemmas.List.{get_or-map, length-map}
use Rattle.std.proofs.lemmas.Bool.{eq-eqb, ne_eqb}
use Rattle.search.specs.Graphs.{row, Inside}
use Rattle.flows.specs.Residual.{residual, entry_steps, exit_steps}
use Rattle.flows.proofs.Residual.{residual_inside, even_half, even_rest, odd_half, odd_rest}
use Rattle.graphs.specs.Fronts.{lists_of}
use Rattle.graphs.specs.Meanings.{residual_graph, side_number, place_number}
use Rattle.graphs.specs.declared.residual.Side.TheVariants.{Entry, Exit}
use Rattle.graphs.specs.declared.residual.Place.{Place}

module _ (n : ℕ) (f : List ℕ) where
  pub residual_row : (p : ℕ) → p < 2 * n → row ((residual_graph n).steps f) p ≡ residual f n (lists_of n f) p
  residual_row p h = get_or-map-range_with_len (residual f n (lists_of n f)) 0 (2 * n) p p [] h (omega arith)

  pub residual_lies_inside : Inside (2 * n) ((residual_graph n).steps f)
  residual_lies_inside =
      record {
        many = length-map-range_with_len (residual f n (lists_of n f)) 0 (2 * n);
        leads = λ p i h l. let e = residual_row p h in
            subst (λ xs. slice_index xs i < 2 * n) (sym e)
            (residual_inside f n (lists_of n f) p (slice_index (residual f n (lists_of n f) p) i) h (i, subst (λ xs. i < length xs) e l, refl));
      }

  module _ (w : ℕ) where
    entry_row : 2 * w < 2 * n → row ((residual_graph n).steps f) (2 * w) ≡ entry_steps f n (2 * w) w
    unfolding residual
    entry_row h =
        residual_row (2 * w) h
        ∙ ap (λ t. cond t (entry_steps f n (2 * w) ((2 * w) / 2)) (exit_steps f n (lists_of n f) (2 * w) ((2 * w) / 2))) (eq-eqb ((2 * w) % 2) 0 (even_rest w))
        ∙ ap (entry_steps f n (2 * w)) (even_half w)

    exit_row : 2 * w + 1 < 2 * n → row ((residual_graph n).steps f) (2 * w + 1) ≡ exit_steps f n (lists_of n f) (2 * w + 1) w
    unfolding residual
    exit_row h =
        residual_row (2 * w + 1) h
        ∙ ap (λ t. cond t (entry_steps f n (2 * w + 1) ((2 * w + 1) / 2)) (exit_steps f n (lists_of n f) (2 * w + 1) ((2 * w + 1) / 2))) (ne_eqb ((2 * w + 1) % 2) 0 (odd_rest w))
        ∙ ap (exit_steps f n (lists_of n f) (2 * w + 1)) (odd_half w)

-- by place
module _ (n : ℕ) (f : List ℕ) (p : Place) (inside : place_number p < 2 * n) where
  pub entry_place : p.side ≡ Entry → (p.wire < n) × (row ((residual_graph n).steps f) (place_number p) ≡ entry_steps f n (2 * p.wire) p.wire)
  entry_place e =
      let k : place_number p ≡ 2 * p.wire = ap (λ s. side_number s p.wire) e in
      (omega arith, ap (row ((residual_graph n).steps f)) k ∙ entry_row n f p.wire (omega arith))

  pub exit_place : p.side ≡ Exit → (p.wire < n) × (row ((residual_graph n).steps f) (place_number p) ≡ exit_steps f n (lists_of n f) (2 * p.wire + 1) p.wire)
  exit_place e =
      let k : place_number p ≡ 2 * p.wire + 1 = ap (λ s. side_number s p.wire) e in
      (omega arith, ap (row ((residual_graph n).steps f)) k ∙ exit_row n f p.wire (omega arith))

module _ (n : ℕ) (f : List ℕ) (w : ℕ) where
  -- where the exit leads on to a wire that is fed
  abbrev on_to : ℕ → ℕ
  on_to u = cond (nat_lt u n) (2 * u) (2 * w + 1)

  pub exit_long : length (exit_steps f n (lists_of n f) (2 * w + 1) w) ≡ 1 + length (lists_of n f w)
  exit_long = omega (arith, length-map (lists_of n f w) on_to)

  pub exit_on : (i u : ℕ) → (i ≢ 0) → i < 1 + length (lists_of n f w) → u ≡ slice_index (lists_of n f w) (i - 1)
      → slice_index (exit_steps f n (lists_of n f) (2 * w + 1) w) i ≡ cond (nat_lt u n) (2 * u) (2 * w + 1)
  exit_on i u ne l e =
      let next : i ≡ suc (i - 1) = omega arith in
      ap (λ k. slice_index (exit_steps f n (lists_of n f) (2 * w + 1) w) k) next
      ∙ get_or-map on_to (lists_of n f w) (i - 1) 0 0 (omega arith)
      ∙ ap on_to (sym e)
