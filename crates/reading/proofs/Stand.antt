-- A cursor that stands at a number of a row that was read before.
use Rattle.std.proofs.Common.{◌≡◌, ℕ, zero, suc, ◌+◌, ◌-◌, ◌<◌, ◌≤◌, true, List, [], ◌∷◌, length, get_or, drop, is_ok, Ok, sym, refl, ap, ◌∙◌, arith}
use Rattle.std.proofs.lemmas.List.{drop_more}
use Rattle.tokens.specs.declared.token.Numeral.{Numeral}
use Rattle.tokens.specs.Lines.{then, number_at, numbers_at, pass_at}
use Rattle.tokens.proofs.Passes.{pass_suc}
use Rattle.tokens.proofs.Readings.{then_inv, ok_same}

pub cons_same : (m n : Numeral) (ms ns : List Numeral) → m ∷ ms ≡ n ∷ ns → (m ≡ n) × (ms ≡ ns)
cons_same m n ms ns e = (cc, cc)

-- the cursor stands at the number k of the row
abbrev pub Stands : List ℕ → List Numeral → ℕ → ℕ → ℕ → Type 0
Stands text ns last k at = numbers_at text (length ns - k) at ≡ Ok (drop k ns, last)

pub rows_length : (text : List ℕ) (k at : ℕ) (p : List Numeral × ℕ) → numbers_at text k at ≡ Ok p → length p.0 ≡ k
rows_length text zero at p e = let q : p.0 ≡ [] = cc in ap length q
rows_length text (suc k) at p e =
    let a = then_inv (number_at text at) _ p e in
    let b = then_inv (numbers_at text k a.0.1) _ p a.2 in
    let c : p.0 ≡ a.0.0 ∷ b.0.0 = cc b.2 in
    let l = rows_length text k a.0.1 b.0 b.1 in
    ap length c ∙ ap suc l

pub stands_first : (text : List ℕ) (k at : ℕ) (p : List Numeral × ℕ) → numbers_at text k at ≡ Ok p → Stands text p.0 p.1 0 at
stands_first text k at p e = let l : length p.0 - 0 ≡ k = omega (arith, rows_length text k at p e) in ap (λ m. numbers_at text m at) l ∙ e

module _ (text : List ℕ) (ns : List Numeral) (last : ℕ) where
  pub record Step (d : Numeral) (k at : ℕ) : Type 0 where
    pub on : ℕ
    pub here : number_at text at ≡ Ok (get_or ns k d, on)
    pub more : Stands text ns last (k + 1) on

  pub stands_step : (d : Numeral) (k at : ℕ) → Stands text ns last k at → k < length ns → Step d k at
  stands_step d k at s lt =
      let e : length ns - k ≡ suc (length ns - (k + 1)) = omega arith in
      let whole : numbers_at text (suc (length ns - (k + 1))) at ≡ Ok (get_or ns k d ∷ drop (k + 1) ns, last) = sym (ap (λ m. numbers_at text m at) e) ∙ s ∙ ap (λ l. Ok (l, last)) (drop_more ns k d lt) in
      let a = then_inv (number_at text at) _ _ whole in
      let b = then_inv (numbers_at text (length ns - (k + 1)) a.0.1) _ _ a.2 in
      let same : (a.0.0 ∷ b.0.0, b.0.1) ≡ (get_or ns k d ∷ drop (k + 1) ns, last) = ok_same _ _ b.2 in
      let parts = cons_same _ _ _ _ (ap (λ x. x.0) same) in
      record { on = a.0.1; here = a.1 ∙ ap (λ x. Ok (x, a.0.1)) parts.0; more = b.1 ∙ ap (λ x. Ok (x, b.0.1)) parts.1 ∙ ap (λ x. Ok (drop (k + 1) ns, x)) (ap (λ x. x.1) same) }

  pub stands_ok : (k at : ℕ) → Stands text ns last k at → k < length ns → is_ok (number_at text at) ≡ true
  stands_ok k at s lt = ap is_ok (stands_step (record { value = 0; at = 0 }) k at s lt).here

  pub stands_next : (d : Numeral) (k at : ℕ) → Stands text ns last k at → k < length ns → (n : Numeral) (on : ℕ) → Ok (n, on) ≡ number_at text at → (n ≡ get_or ns k d) × Stands text ns last (k + 1) on
  stands_next d k at s lt n on e =
      let t = stands_step d k at s lt in
      let same : (n, on) ≡ (get_or ns k d, t.on) = ok_same _ _ (e ∙ t.here) in
      (ap (λ x. x.0) same, ap (λ x. numbers_at text (length ns - (k + 1)) x.1) same ∙ t.more)

  pub record Passed (k m at : ℕ) : Type 0 where
    pub on : ℕ
    pub here : pass_at text m at ≡ Ok (tt, on)
    pub more : Stands text ns last (k + m) on

  pub stands_pass : (m k at : ℕ) → Stands text ns last k at → k + m ≤ length ns → Passed k m at
  stands_pass zero k at s le = let e : k + 0 ≡ k = omega arith in record { on = at; here = refl; more = ap (λ j. numbers_at text (length ns - j) at) e ∙ s ∙ ap (λ j. Ok (drop j ns, last)) (sym e) }
  stands_pass (suc m) k at s le =
      let t = stands_step (record { value = 0; at = 0 }) k at s (omega arith) in
      let u = stands_pass m (k + 1) t.on t.more (omega arith) in
      let e : k + 1 + m ≡ k + suc m = omega arith in
      record {
        on = u.on;
        here = pass_suc text m at ∙ ap (λ r. then r (λ _ on. pass_at text m on)) t.here ∙ u.here;
        more = ap (λ j. numbers_at text (length ns - j) u.on) (sym e) ∙ u.more ∙ ap (λ j. Ok (drop j ns, last)) e;
      }

  pub stands_end : (k at : ℕ) → Stands text ns last k at → length ns ≤ k → at ≡ last
  stands_end k at s le =
      let e : length ns - k ≡ 0 = omega arith in
      let q : ([], at) ≡ (drop k ns, last) = ok_same _ _ (sym (ap (λ m. numbers_at text m at) e) ∙ s) in
      ap (λ x. x.1) q
