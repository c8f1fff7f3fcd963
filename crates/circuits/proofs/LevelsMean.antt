-- What a level run answers is what the levels of the wires are.
use Rattle.std.proofs.Common.{◌≡◌, ℕ, suc, ◌+◌, ◌-◌, ◌<◌, ◌≤◌, ltb, List, [], ◌∷◌, ◌++◌, length, get_or, drop, sym, refl, ap, ◌∙◌, subst, inl, inr, add-zero, arith, below_more}
use Rattle.std.proofs.lemmas.List.{length-drop, length_push, get_or-drop, get_or_append_left, get_or_push, drop-drop}
use Rattle.std.proofs.lemmas.Bool.{cases_lt, cond-true, cond-false, lt-ltb, le-ltb}
use Rattle.circuits.specs.Circuits.{Meaning, Lawful, width, Feeds}
use Rattle.circuits.specs.Growths.{Tables}
use Rattle.circuits.specs.Levels.{Rules, own, own_at, outgoing, Outcome, run_from, Levelled, Told}
use Rattle.circuits.specs.declared.making.Making.{Making}
use Rattle.circuits.specs.declared.making.Making.TheVariants.{Input, Constant, Copy, Inversion, Sum, Product}

-- an own level goes by the levels of the operands alone
pub own_agrees : (t : Tables) (xs ys : List ℕ) (k : ℕ) (m : Making) → Feeds k m → ((j : ℕ) → j < k → get_or xs j 0 ≡ get_or ys j 0) → own t xs m ≡ own t ys m
own_agrees t xs ys k Input f same = refl
own_agrees t xs ys k (Constant b) f same = refl
own_agrees t xs ys k (Copy a) f same = same a f
own_agrees t xs ys k (Inversion a) f same = same a f
own_agrees t xs ys k (Sum a b) f same = ap (λ x. t.sum x (get_or xs b 0)) (same a f.0) ∙ ap (t.sum (get_or ys a 0)) (same b f.1)
own_agrees t xs ys k (Product a b) f same = ap (λ x. t.product x (get_or xs b 0)) (same a f.0) ∙ ap (t.product (get_or ys a 0)) (same b f.1)

module _ (m : Meaning) (laws : Lawful m) (r : Rules) (plan : List ℕ) where
  Right : Outcome → Type 0
  Right o = Levelled m r plan o.levels × Told m r o.levels o.answer

  same_own : (out more : List ℕ) (k : ℕ) → k ≤ length out → k < width m → own_at m r (out ++ more) k ≡ own_at m r out k
  same_own out more k h w =
      own_agrees r.growth (out ++ more) out k (get_or m.makings k Input) (laws.fed k w) (λ j l. get_or_append_left out more 0 j (omega arith))

  -- one level more
  levelled_more : (out : List ℕ) → Levelled m r plan out → length out < width m → own_at m r out (length out) ≤ r.limit → Levelled m r plan (out ++ (outgoing r plan (length out) (own_at m r out (length out)) ∷ []))
  levelled_more out is h low =
      let n = length out in
      let v = outgoing r plan n (own_at m r out n) in
      let more = out ++ (v ∷ []) in
      let long : length more ≡ n + 1 = length_push out v in
      let lows : (k : ℕ) → k < n + 1 → own_at m r more k ≤ r.limit =
      below_more (λ k. own_at m r more k ≤ r.limit) n
      (λ k l. subst (λ x. x ≤ r.limit) (sym (same_own out (v ∷ []) k (omega arith) (omega arith))) (is.low k l))
      (subst (λ x. x ≤ r.limit) (sym (same_own out (v ∷ []) n (omega arith) h)) low) in
      let outs : (k : ℕ) → k < n + 1 → get_or more k 0 ≡ outgoing r plan k (own_at m r more k) =
      below_more (λ k. get_or more k 0 ≡ outgoing r plan k (own_at m r more k)) n
      (λ k l. get_or_append_left out (v ∷ []) 0 k l ∙ is.goes k l ∙ ap (outgoing r plan k) (sym (same_own out (v ∷ []) k (omega arith) (omega arith))))
      (get_or_push out v 0 n refl ∙ ap (outgoing r plan n) (sym (same_own out (v ∷ []) n (omega arith) h))) in
      record { few = omega (arith, long); low = λ k l. lows k (omega (arith, long)); goes = λ k l. outs k (omega (arith, long)) }

  right_from : (ms : List Making) (out : List ℕ) → drop (length out) m.makings ≡ ms → Levelled m r plan out → Right (run_from r plan out ms)
  unfolding Right
  right_from [] out e is =
      let l : length m.makings - length out ≡ 0 = sym (length-drop (length out) m.makings) ∙ ap length e in
      (is, (let f = is.few in omega arith))
  right_from (x ∷ xs) out e is =
      let n = length out in
      let l : length m.makings - n ≡ suc (length xs) = sym (length-drop n m.makings) ∙ ap length e in
      let h : n < width m = omega arith in
      let at : get_or m.makings n Input ≡ x = ap (λ i. get_or m.makings i Input) (sym (add-zero n)) ∙ sym (get_or-drop n m.makings 0 Input) ∙ ap (λ ys. get_or ys 0 Input) e in
      let level : own r.growth out x ≡ own_at m r out n = ap (own r.growth out) (sym at) in
      let rest : drop (n + 1) m.makings ≡ xs = sym (drop-drop 1 n m.makings) ∙ ap (drop 1) e in
      let passed = λ (p : r.limit < own r.growth out x). subst Right (sym (cond-true (ltb r.limit (own r.growth out x)) _ _ (lt-ltb r.limit (own r.growth out x) p))) (is, (refl, (h, (level, p)))) in
      let v = outgoing r plan n (own r.growth out x) in
      let same : out ++ (outgoing r plan n (own_at m r out n) ∷ []) ≡ out ++ (v ∷ []) = ap (λ y. out ++ (outgoing r plan n y ∷ [])) (sym level) in
      let next = λ (p : own r.growth out x ≤ r.limit). subst Right (sym (cond-false (ltb r.limit (own r.growth out x)) _ _ (le-ltb r.limit (own r.growth out x) p)))
      (right_from xs (out ++ (v ∷ [])) (ap (λ i. drop i m.makings) (length_push out v) ∙ rest) (subst (Levelled m r plan) same (levelled_more out is h (omega (arith, level))))) in
      elim (cases_lt r.limit (own r.growth out x)) [ inl p ↦ passed p | inr p ↦ next p ]

  pub right : Levelled m r plan (run_from r plan [] m.makings).levels × Told m r (run_from r plan [] m.makings).levels (run_from r plan [] m.makings).answer
  unfolding Right
  right = right_from m.makings [] refl (record { few = omega arith; low = λ k h. absurd (omega arith); goes = λ k h. absurd (omega arith) })
