-- How many lines with a token are left, as a reader goes through a text.
use Rattle.std.proofs.Common.{◌≡◌, ℕ, zero, suc, ◌+◌, Bool, true, false, cond, ◌&&◌, ◌||◌, eqb, leb, List, [], ◌∷◌, length, drop, Some, None, Ok, Err, Option, Result, sym, refl, ap, ◌∙◌, subst, ⊎_elim, one-add, arith}
use Rattle.std.specs.List.{prefix_len}
use Rattle.std.proofs.lemmas.List.{drop-drop, length-take-le}
use Rattle.std.proofs.lemmas.List.Sums.{prefix_len-le-length}
use Rattle.std.proofs.lemmas.Bool.{cases_Bool, cond-true, cond-false}
use Rattle.std.proofs.lemmas.Bool.Decides.{nat_tests}
use Rattle.circuits.specs.declared.answer.Refusal.TheVariants as refusal
use Rattle.tokens.specs.declared.fault.Fault.{Fault}
use Rattle.tokens.specs.declared.gate.Rule.{Rule}
use Rattle.tokens.specs.declared.header.Header.{Header}
use Rattle.tokens.specs.declared.token.Numeral.{Numeral}
use Rattle.tokens.specs.Places.{visible, blank, lines_from}
use Rattle.tokens.specs.Numbers.{value_of}
use Rattle.tokens.specs.Faults.{fault_at}
use Rattle.tokens.specs.Gates.{rule_of}
use Rattle.tokens.specs.Tokens.{Piece, number, word, end, sorted, front, no_token, next_token, token_at}
use Rattle.tokens.specs.Lines.{Parsed, number_in, number_at, numbers_at, known, rule_in, rule_at, end_in, end_at, gate_at}
use Rattle.tokens.specs.Headers.{gap, line_start, widths_at, sum_at, header_at}
use Rattle.tokens.proofs.Readings.{err_ok, ok_same, then_inv, cond_inv}

or_true : (o : Bool) → (o || true) ≡ true
or_true true = refl
or_true false = refl

or_false : (o : Bool) → (o || false) ≡ o
or_false true = refl
or_false false = refl

blank_step : (o : Bool) (b : ℕ) (bs : List ℕ) → blank b ≡ true → lines_from o (b ∷ bs) ≡ lines_from o bs
blank_step o b bs h =
    let t : eqb b 10 ≡ false = grind (arith, nat_tests) in
    let v : visible b ≡ false = grind (arith, nat_tests) in
    cond-false _ _ _ t ∙ ap (λ x. lines_from (o || x) bs) v ∙ ap (λ x. lines_from x bs) (or_false o)

token_step : (o : Bool) (b : ℕ) (bs : List ℕ) → visible b ≡ true → lines_from o (b ∷ bs) ≡ lines_from true bs
token_step o b bs h =
    let t : eqb b 10 ≡ false = grind (arith, nat_tests) in
    cond-false _ _ _ t ∙ ap (λ x. lines_from (o || x) bs) h ∙ ap (λ x. lines_from x bs) (or_true o)

end_step : (o : Bool) (b : ℕ) (bs : List ℕ) → eqb b 10 ≡ true → lines_from o (b ∷ bs) ≡ cond o 1 0 + lines_from false bs
end_step o b bs h = cond-true _ _ _ h

-- a token's further bytes
run_step : (bs : List ℕ) → lines_from true bs ≡ lines_from true (drop (prefix_len visible bs) bs)
run_step [] = refl
run_step (b ∷ bs) =
    ⊎_elim
    (λ y. let one : prefix_len visible (b ∷ bs) ≡ suc (prefix_len visible bs) = cond-true _ _ _ y ∙ one-add (prefix_len visible bs) in token_step true b bs y ∙ run_step bs ∙ ap (λ k. lines_from true (drop k (b ∷ bs))) (sym one))
    (λ n. let none : prefix_len visible (b ∷ bs) ≡ 0 = cond-false _ _ _ n in ap (λ k. lines_from true (drop k (b ∷ bs))) (sym none))
    (cases_Bool (visible b))

-- a whole token
row_step : (o : Bool) (b : ℕ) (bs : List ℕ) → visible b ≡ true → lines_from o (b ∷ bs) ≡ lines_from true (drop (prefix_len visible (b ∷ bs)) (b ∷ bs))
row_step o b bs y =
    let one : prefix_len visible (b ∷ bs) ≡ suc (prefix_len visible bs) = cond-true _ _ _ y ∙ one-add (prefix_len visible bs) in
    token_step o b bs y ∙ run_step bs ∙ ap (λ k. lines_from true (drop k (b ∷ bs))) (sym one)

front_length : (bs : List ℕ) → length (front bs) ≡ prefix_len visible bs
front_length bs = length-take-le (prefix_len visible bs) bs (prefix_len-le-length visible bs)

gap_step : (b : ℕ) (bs : List ℕ) → gap b ≡ true → lines_from false (b ∷ bs) ≡ lines_from false bs
gap_step b bs h =
    ⊎_elim
    (λ y. blank_step false b bs y)
    (λ n. let t : eqb b 10 ≡ true = grind (arith, nat_tests) in end_step false b bs t ∙ (let z : 0 + lines_from false bs ≡ lines_from false bs = omega arith in z))
    (cases_Bool (blank b))

gaps_step : (bs : List ℕ) → lines_from false bs ≡ lines_from false (drop (prefix_len gap bs) bs)
gaps_step [] = refl
gaps_step (b ∷ bs) =
    ⊎_elim
    (λ y. let one : prefix_len gap (b ∷ bs) ≡ suc (prefix_len gap bs) = cond-true _ _ _ y ∙ one-add (prefix_len gap bs) in gap_step b bs y ∙ gaps_step bs ∙ ap (λ k. lines_from false (drop k (b ∷ bs))) (sym one))
    (λ n. let none : prefix_len gap (b ∷ bs) ≡ 0 = cond-false _ _ _ n in ap (λ k. lines_from false (drop k (b ∷ bs))) (sym none))
    (cases_Bool (gap b))

no_gap : (bs : List ℕ) → prefix_len gap (drop (prefix_len gap bs) bs) ≡ 0
no_gap [] = refl
no_gap (b ∷ bs) =
    ⊎_elim
    (λ y. let one : prefix_len gap (b ∷ bs) ≡ suc (prefix_len gap bs) = cond-true _ _ _ y ∙ one-add (prefix_len gap bs) in ap (λ k. prefix_len gap (drop k (b ∷ bs))) one ∙ no_gap bs)
    (λ n. let none : prefix_len gap (b ∷ bs) ≡ 0 = cond-false _ _ _ n in ap (λ k. prefix_len gap (drop k (b ∷ bs))) none ∙ none)
    (cases_Bool (gap b))

-- where a line ends
abbrev Ended : List ℕ → Type 0
Ended [] = Unit {0}
Ended (b ∷ bs) = eqb b 10 ≡ true

ended_step : (bs : List ℕ) → Ended bs → lines_from true bs ≡ 1 + lines_from false bs
ended_step [] h = refl
ended_step (b ∷ bs) h = end_step true b bs h ∙ ap (λ n. 1 + n) (let z : lines_from false bs ≡ 0 + lines_from false bs = omega arith in z) ∙ ap (λ n. 1 + n) (sym (end_step false b bs h))

sorted_end : (n : Option ℕ) (bs : List ℕ) (at z : ℕ) → ◌≡◌ {A = Result Piece Fault} (Ok (sorted n bs at)) (Ok (end z)) → ⊥
sorted_end (Some n) bs at z e = let q : ◌≡◌ {A = ℕ} 0 1 = cc in omega arith
sorted_end None bs at z e = let q : ◌≡◌ {A = ℕ} 0 1 = cc in omega arith

module _ (text : List ℕ) where
  -- the lines with a token from an offset on
  abbrev pub left : Bool → ℕ → ℕ
  left o at = lines_from o (drop at text)

  -- what a token that is read says of the lines left
  abbrev Counted : Bool → List ℕ → Result Piece Fault → Type 0
  Counted o rest (Ok (number n bs at)) = lines_from o rest ≡ left true (at + length bs)
  Counted o rest (Ok (word bs at)) = lines_from o rest ≡ left true (at + length bs)
  Counted o rest (Ok (end at)) = (lines_from o rest ≡ left o at) × Ended (drop at text)
  Counted o rest (Err f) = Unit {0}

  counted_back : (o : Bool) (rest more : List ℕ) (t : Result Piece Fault) → lines_from o rest ≡ lines_from o more → Counted o more t → Counted o rest t
  counted_back o rest more (Ok (number n bs at)) e h = e ∙ h
  counted_back o rest more (Ok (word bs at)) e h = e ∙ h
  counted_back o rest more (Ok (end at)) e h = (e ∙ h.0, h.1)
  counted_back o rest more (Err f) e h = tt

  sorted_counted : (o : Bool) (rest : List ℕ) (n : Option ℕ) (bs : List ℕ) (at : ℕ) → lines_from o rest ≡ left true (at + length bs) → Counted o rest (Ok (sorted n bs at))
  sorted_counted o rest (Some n) bs at h = h
  sorted_counted o rest None bs at h = h

  next_counted : (o : Bool) (at : ℕ) (rest : List ℕ) → drop at text ≡ rest → Counted o rest (next_token text at rest)
  next_counted o at [] e = (ap (lines_from o) (sym e), subst Ended (sym e) tt)
  next_counted o at (b ∷ bs) e =
      let on : drop (at + 1) text ≡ bs = sym (drop-drop 1 at text) ∙ ap (drop 1) e in
      ⊎_elim
      (λ y. subst (Counted o (b ∷ bs)) (sym (cond-true (blank b) _ _ y)) (counted_back o (b ∷ bs) bs (next_token text (at + 1) bs) (blank_step o b bs y) (next_counted o (at + 1) bs on)))
      (λ n. subst (Counted o (b ∷ bs)) (sym (cond-false (blank b) _ _ n))
      (⊎_elim
      (λ v.
      let stops : lines_from o (b ∷ bs) ≡ left true (at + length (front (b ∷ bs))) =
      row_step o b bs v ∙ ap (λ k. lines_from true (drop k (b ∷ bs))) (sym (front_length (b ∷ bs))) ∙ ap (λ l. lines_from true (drop (length (front (b ∷ bs))) l)) (sym e) ∙ ap (lines_from true) (drop-drop (length (front (b ∷ bs))) at text) in
      subst (Counted o (b ∷ bs)) (sym (cond-true (visible b) _ _ v)) (sorted_counted o (b ∷ bs) (value_of (front (b ∷ bs))) (front (b ∷ bs)) at stops))
      (λ w. subst (Counted o (b ∷ bs)) (sym (cond-false (visible b) _ _ w))
      (⊎_elim
      (λ t. subst (Counted o (b ∷ bs)) (sym (cond-true (eqb b 10) _ _ t)) (ap (lines_from o) (sym e), subst Ended (sym e) t))
      (λ u. subst (Counted o (b ∷ bs)) (sym (cond-false (eqb b 10) (Ok (end at)) (Err (fault_at text refusal.ByteNotAllowed at)) u)) tt)
      (cases_Bool (eqb b 10))))
      (cases_Bool (visible b))))
      (cases_Bool (blank b))

  token_counted : (o : Bool) (at : ℕ) → Counted o (drop at text) (token_at text at)
  token_counted o at = next_counted o at (drop at text) refl

  number_in_counts : (o : Bool) (rest : List ℕ) (t : Result Piece Fault) (p : Numeral × ℕ) → Counted o rest t → number_in text t ≡ Ok p → lines_from o rest ≡ left true p.1
  number_in_counts o rest (Ok (number n bs at)) p h e = h ∙ ap (λ q. left true q.1) (ok_same _ _ e)
  number_in_counts o rest (Ok (word bs at)) p h e = absurd (err_ok _ _ e)
  number_in_counts o rest (Ok (end at)) p h e = absurd (err_ok _ _ e)
  number_in_counts o rest (Err f) p h e = absurd (err_ok _ _ e)

  number_counts : (o : Bool) (at : ℕ) (p : Numeral × ℕ) → number_at text at ≡ Ok p → left o at ≡ left true p.1
  number_counts o at p e = number_in_counts o (drop at text) (token_at text at) p (token_counted o at) e

  numbers_count : (k at : ℕ) (p : List Numeral × ℕ) → numbers_at text k at ≡ Ok p → left true at ≡ left true p.1
  numbers_count zero at p e = ap (λ q. left true q.1) (ok_same _ _ e)
  numbers_count (suc k) at p e =
      let a = then_inv (number_at text at) _ p e in
      let b = then_inv (numbers_at text k a.0.1) _ p a.2 in
      number_counts true at a.0 a.1 ∙ numbers_count k a.0.1 b.0 b.1 ∙ ap (λ q. left true q.1) (ok_same _ _ b.2)

  known_counts : (at on : ℕ) (o : Option Rule) (p : Rule × ℕ) → known text at o on ≡ Ok p → on ≡ p.1
  known_counts at on (Some r) p e = ap (λ q. q.1) (ok_same _ _ e)
  known_counts at on None p e = absurd (err_ok _ _ e)

  rule_in_counts : (rest : List ℕ) (t : Result Piece Fault) (p : Rule × ℕ) → Counted true rest t → rule_in text t ≡ Ok p → lines_from true rest ≡ left true p.1
  rule_in_counts rest (Ok (number n bs at)) p h e = absurd (err_ok _ _ e)
  rule_in_counts rest (Ok (word bs at)) p h e = h ∙ ap (left true) (known_counts at (at + length bs) (rule_of bs) p e)
  rule_in_counts rest (Ok (end at)) p h e = absurd (err_ok _ _ e)
  rule_in_counts rest (Err f) p h e = absurd (err_ok _ _ e)

  end_in_counts : (rest : List ℕ) (t : Result Piece Fault) (p : Unit {0} × ℕ) → Counted true rest t → end_in text t ≡ Ok p → lines_from true rest ≡ 1 + left false p.1
  end_in_counts rest (Ok (number n bs at)) p h e = absurd (err_ok _ _ e)
  end_in_counts rest (Ok (word bs at)) p h e = absurd (err_ok _ _ e)
  end_in_counts rest (Ok (end at)) p h e = h.0 ∙ ended_step (drop at text) h.1 ∙ ap (λ q. 1 + left false q.1) (ok_same _ _ e)
  end_in_counts rest (Err f) p h e = absurd (err_ok _ _ e)

  end_counts : (at : ℕ) (p : Unit {0} × ℕ) → end_at text at ≡ Ok p → left true at ≡ 1 + left false p.1
  end_counts at p e = end_in_counts (drop at text) (token_at text at) p (token_counted true at) e

  pub start_counts : (at : ℕ) → left false at ≡ left false (line_start text at)
  start_counts at = gaps_step (drop at text) ∙ ap (lines_from false) (drop-drop (prefix_len gap (drop at text)) at text)

  -- a gate line is one of them
  pub gate_counts : (at : ℕ) (p : Parsed × ℕ) → gate_at text at ≡ Ok p → left false at ≡ 1 + left false p.1
  gate_counts at p e =
      let a = then_inv (number_at text at) _ p e in
      let b = then_inv (number_at text a.0.1) _ p a.2 in
      let c = then_inv (numbers_at text a.0.0.value b.0.1) _ p b.2 in
      let d = then_inv (numbers_at text b.0.0.value c.0.1) _ p c.2 in
      let r = then_inv (rule_at text d.0.1) _ p d.2 in
      let z = then_inv (end_at text r.0.1) _ p r.2 in
      number_counts false at a.0 a.1 ∙ number_counts true a.0.1 b.0 b.1 ∙ numbers_count a.0.0.value b.0.1 c.0 c.1 ∙ numbers_count b.0.0.value c.0.1 d.0 d.1
      ∙ rule_in_counts (drop d.0.1 text) (token_at text d.0.1) r.0 (token_counted true d.0.1) r.1 ∙ end_counts r.0.1 z.0 z.1 ∙ ap (λ q. 1 + left false q.1) (ok_same _ _ z.2)

  widths_count : (wires k sum at : ℕ) (p : ℕ × ℕ) → widths_at text wires k sum at ≡ Ok p → left true at ≡ left true p.1
  widths_count wires zero sum at p e = ap (λ q. left true q.1) (ok_same _ _ e)
  widths_count wires (suc k) sum at p e =
      let a = then_inv (number_at text at) _ p e in
      let b = cond_inv _ _ _ p a.2 in
      number_counts true at a.0 a.1 ∙ widths_count wires k (sum + a.0.0.value) a.0.1 p b.1

  sum_counts : (wires at : ℕ) (p : ℕ × ℕ) → sum_at text wires at ≡ Ok p → left false at ≡ 1 + left false p.1
  sum_counts wires at p e =
      let a = then_inv (number_at text (line_start text at)) _ p e in
      let b = cond_inv (leb a.0.0.value 64) _ _ p a.2 in
      let c = then_inv (widths_at text wires a.0.0.value 0 a.0.1) _ p b.1 in
      let d = then_inv (end_at text c.0.1) _ p c.2 in
      start_counts at ∙ number_counts false (line_start text at) a.0 a.1 ∙ widths_count wires a.0.0.value 0 a.0.1 c.0 c.1 ∙ end_counts c.0.1 d.0 d.1 ∙ ap (λ q. 1 + left false q.1) (ok_same _ _ d.2)

  -- the first three lines are three of them
  pub header_counts : (at : ℕ) (p : Header × ℕ) → header_at text at ≡ Ok p → left false at ≡ 3 + left false p.1
  header_counts at p e =
      let a = then_inv (number_at text (line_start text at)) _ p e in
      let b = then_inv (number_at text a.0.1) _ p a.2 in
      let c = cond_inv (leb 1 b.0.0.value && leb b.0.0.value 1048576) _ _ p b.2 in
      let d = then_inv (end_at text b.0.1) _ p c.1 in
      let i = then_inv (sum_at text b.0.0.value d.0.1) _ p d.2 in
      let o = then_inv (sum_at text b.0.0.value i.0.1) _ p i.2 in
      let first : left false at ≡ 1 + left false d.0.1 = start_counts at ∙ number_counts false (line_start text at) a.0 a.1 ∙ number_counts true a.0.1 b.0 b.1 ∙ end_counts b.0.1 d.0 d.1 in
      let last : o.0.1 ≡ p.1 = ap (λ q. q.1) (ok_same _ _ o.2) in
      let rest : left false o.0.1 ≡ left false p.1 = ap (left false) last in
      omega (arith, first, sum_counts b.0.0.value d.0.1 i.0 i.1, sum_counts b.0.0.value i.0.1 o.0 o.1, rest)

  none_left : (at z : ℕ) (rest : List ℕ) → prefix_len gap rest ≡ 0 → next_token text at rest ≡ Ok (end z) → lines_from false rest ≡ 0
  none_left at z [] g e = refl
  none_left at z (b ∷ bs) g e =
      let dull : gap b ≡ false = ⊎_elim (λ y. absurd (omega (arith, g, cond-true (gap b) (1 + prefix_len gap bs) 0 y))) (λ n. n) (cases_Bool (gap b)) in
      let no_blank : blank b ≡ false = grind (arith, nat_tests) in
      let no_end : eqb b 10 ≡ false = grind (arith, nat_tests) in
      absurd (⊎_elim
      (λ v. sorted_end (value_of (front (b ∷ bs))) (front (b ∷ bs)) at z (sym (cond-true (visible b) _ _ v) ∙ sym (cond-false (blank b) _ _ no_blank) ∙ e))
      (λ w. err_ok _ _ (sym (cond-false (eqb b 10) (Ok (end at)) (Err (fault_at text refusal.ByteNotAllowed at)) no_end) ∙ sym (cond-false (visible b) (Ok (sorted (value_of (front (b ∷ bs))) (front (b ∷ bs)) at)) (no_token text at (b ∷ bs)) w) ∙ sym (cond-false (blank b) _ _ no_blank) ∙ e))
      (cases_Bool (visible b)))

  -- where no line begins, none is left
  pub none_counts : (at z : ℕ) → token_at text (line_start text at) ≡ Ok (end z) → left false at ≡ 0
  none_counts at z e =
      let on : drop (prefix_len gap (drop at text)) (drop at text) ≡ drop (line_start text at) text = drop-drop (prefix_len gap (drop at text)) at text in
      start_counts at ∙ none_left (line_start text at) z (drop (line_start text at) text) (ap (prefix_len gap) (sym on) ∙ no_gap (drop at text)) e
