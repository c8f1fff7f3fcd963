-- A matching circuit keeps the laws of circuits.
use Rattle.std.specs.Prelude.{◌≡◌, ℕ, ◌+◌, ◌-◌, ◌*◌, ◌<◌, ◌≤◌, true, false, ◌==◌, nat_lt, slice_index, slice_index_or, refl}
use Rattle.std.proofs.Common.{sym, ap, ◌∙◌, subst, zero-add, arith}
use Rattle.std.proofs.lemmas.List.FromFn.{length-map-range_with_len, get_or-map-range_with_len, length-range_with_len, get_or-range_with_len}
use Rattle.std.proofs.lemmas.Bool.{ltb-true, ltb-false, eqb-true, eqb-false, cond_both}
use Rattle.circuits.specs.Circuits.{Lawful, width, is_input, Feeds}
use Rattle.circuits.specs.Matchings.{matching, matching_making}
use Rattle.circuits.specs.declared.making.Making.{Making}
use Rattle.circuits.specs.declared.making.Making.TheVariants.{Input, Inversion, Sum, Product}

module _ (b k : ℕ) where
  -- what holds of each making that may stand at rank k holds of the one that does
  pub made_by_cases : (P : Making → Type 0) → (k < 2 * b → P Input) → (2 * b ≤ k → k < 3 * b → P (Sum (k - 2 * b) (k - b))) → (3 * b ≤ k → k < 4 * b → P (Inversion (k - b))) → (k ≡ 4 * b → P (Product (3 * b + 1) (3 * b))) → (4 * b < k → P (Product (k - b + 1) (k - 1))) → P (matching_making b k)
  made_by_cases P i s n f p =
      cond_both (nat_lt k (2 * b)) _ _ P (λ e. i (ltb-true k (2 * b) e)) (λ e1.
      cond_both (nat_lt k (3 * b)) _ _ P (λ e. s (ltb-false k (2 * b) e1) (ltb-true k (3 * b) e)) (λ e2.
      cond_both (nat_lt k (4 * b)) _ _ P (λ e. n (ltb-false k (3 * b) e2) (ltb-true k (4 * b) e)) (λ e3.
      cond_both (k == 4 * b) _ _ P (λ e. f (eqb-true k (4 * b) e)) (λ e4.
      p (let l : 4 * b ≤ k = ltb-false k (4 * b) e3 in let d : k ≡ 4 * b → ⊥ = eqb-false k (4 * b) e4 in omega arith)))))

module _ (b : ℕ) (least : 1 ≤ b) (most : b ≤ 4096) where
  at_rank : (k : ℕ) → k < 5 * b - 1 → slice_index_or (matching b).makings k Input ≡ matching_making b k
  at_rank k h = get_or-map-range_with_len (matching_making b) 0 (5 * b - 1) k k Input h (zero-add k)

  name_at : (k : ℕ) → k < 5 * b - 1 → slice_index (matching b).names k ≡ k
  name_at k h = get_or-range_with_len 0 (5 * b - 1) k 0 h ∙ zero-add k

  pub wide : width (matching b) ≡ 5 * b - 1
  wide = length-map-range_with_len (matching_making b) 0 (5 * b - 1)

  pub matching_lawful : Lawful (matching b)
  matching_lawful = record {
    some = omega (arith, wide);
    most = omega (arith, wide);
    named = length-range_with_len 0 (5 * b - 1) ∙ sym wide;
    inputs_fit = omega (arith, wide);
    outputs_fit = omega (arith, wide);
    inputs_first = λ k h.
        ap is_input (at_rank k (omega arith)) ∙ made_by_cases b k (λ m. is_input m ≡ true) (λ _. refl) (λ l h2. absurd (omega arith)) (λ l h2. absurd (omega arith)) (λ e. absurd (omega arith)) (λ l. absurd (omega arith));
    inputs_only = λ k l h.
        let i : k < 5 * b - 1 = omega (arith, wide) in
        ap is_input (at_rank k i) ∙ made_by_cases b k (λ m. is_input m ≡ false) (λ h2. absurd (omega arith)) (λ _ _. refl) (λ _ _. refl) (λ _. refl) (λ _. refl);
    inputs_named = λ k h. name_at k (omega arith);
    fed = λ k h.
        let i : k < 5 * b - 1 = omega (arith, wide) in
        subst (Feeds k) (sym (at_rank k i)) (made_by_cases b k (Feeds k) (λ _. tt) (λ l2 h2. (omega arith, omega arith)) (λ l2 h2. omega arith) (λ e. (omega arith, omega arith)) (λ l2. (omega arith, omega arith)));
    names_below = λ k h. let i : k < 5 * b - 1 = omega (arith, wide) in omega (arith, wide, name_at k i);
    names_apart = λ j k h1 h2 e.
        let i1 : j < 5 * b - 1 = omega (arith, wide) in
        let i2 : k < 5 * b - 1 = omega (arith, wide) in
        sym (name_at j i1) ∙ e ∙ name_at k i2;
  }
