-- A written line is read back.
use Rattle.std.proofs.Common.{◌≡◌, ℕ, suc, ◌+◌, ◌^◌, ◌<◌, ◌≤◌, true, cond, ◌&&◌, eqb, leb, List, [], ◌∷◌, ◌++◌, length, drop, Ok, Err, decimal, Result, sym, refl, ap, ◌∙◌, subst, ⊎_elim, append_assoc, append-nil, arith}
use Rattle.std.specs.List.{prefix_len}
use Rattle.std.proofs.lemmas.List.{drop_at, drop-drop}
use Rattle.std.proofs.lemmas.Bool.{cond-true, cond-false, cases_Bool, le-leb, eqb-true, eqb-false, and_from}
use Rattle.circuits.specs.declared.answer.Refusal.TheVariants as refusal
use Rattle.tokens.specs.declared.fault.Fault.{Fault}
use Rattle.tokens.specs.declared.gate.Rule.{Rule}
use Rattle.tokens.specs.declared.token.Numeral.{Numeral}
use Rattle.tokens.specs.Faults.{fault_at}
use Rattle.tokens.specs.Headers.{gap, line_start, widths_at, sum_at}
use Rattle.tokens.specs.Tokens.{next_token}
use Rattle.tokens.specs.Lines.{then, number_at, rule_at, rule_in, end_at, end_in, gate_at}
use Rattle.writing.specs.Writes.{spaced, gate_text, width_text}
use Rattle.writing.proofs.Written.{stops_spaced, reads_one, reads_first, Small, places, after_all, then_ok, reads_all, lead_number}

-- a line of widths, after its count
abbrev next : List ℕ → ℕ → Numeral → ℕ → Result (ℕ × ℕ) Fault
next text wires k on = cond (leb k.value 64) (then (widths_at text wires k.value 0 on) (λ sum end. then (end_at text end) (λ _ last. Ok (sum, last)))) (Err (fault_at text refusal.CountOutOfBounds k.at))

module _ (text : List ℕ) where
  -- the end of a line
  pub ends_here : (at : ℕ) (more : List ℕ) → drop at text ≡ 10 ∷ more → end_at text at ≡ Ok (tt, at)
  ends_here at more here = ap (λ l. end_in text (next_token text at l)) here

  -- past the rows that end lines
  pub record Begins (at : ℕ) (rest : List ℕ) : Type 0 where
    pub start : ℕ
    pub is : line_start text at ≡ start
    pub left : drop start text ≡ rest

  pub begins : (at : ℕ) (gaps rest : List ℕ) → drop at text ≡ gaps ++ rest → prefix_len gap (gaps ++ rest) ≡ length gaps → Begins at rest
  begins at gaps rest here run =
      record {
        start = at + length gaps;
        is = ap (λ l. at + prefix_len gap l) here ∙ ap (λ k. at + k) run;
        left = sym (drop-drop (length gaps) at text) ∙ ap (drop (length gaps)) here ∙ drop_at gaps rest (length gaps) refl;
      }

  -- a gate line
  pub record GateBack (at : ℕ) (ins : List ℕ) (out : ℕ) (rule : Rule) (more : List ℕ) : Type 0 where
    pub is : ℕ
    pub os : ℕ
    pub last : ℕ
    pub gate : gate_at text at ≡ Ok (record { first = at; inputs = places is ins; results = places os (out ∷ []); rule = rule }, last)
    pub left : drop last text ≡ 10 ∷ more

  pub gate_back : (at : ℕ) (ins : List ℕ) (out : ℕ) (w : List ℕ) (rule : Rule) (more : List ℕ) → length ins < 10 → Small ins → out < 2 ^ 32 → ((a : ℕ) → rule_in text (next_token text a (32 ∷ (w ++ (10 ∷ more)))) ≡ Ok (rule, a + 1 + length w)) → drop at text ≡ gate_text ins out w ++ more → GateBack at ins out rule more
  gate_back at ins out w rule more few small low known here =
      let tail : List ℕ = 32 ∷ (w ++ (10 ∷ more)) in
      let here' : drop at text ≡ decimal (length ins) ++ (32 ∷ (decimal 1 ++ (spaced ins ++ (spaced (out ∷ []) ++ tail)))) = here ∙ simp (append_assoc, append-nil) in
      let n = reads_first text at (length ins) (32 ∷ (decimal 1 ++ (spaced ins ++ (spaced (out ∷ []) ++ tail)))) (omega arith) refl here' in
      let at1 : ℕ = at + length (decimal (length ins)) in
      let m = reads_one text at1 1 (spaced ins ++ (spaced (out ∷ []) ++ tail)) (omega arith) (stops_spaced ins (spaced (out ∷ []) ++ tail) refl) n.1 in
      let at2 : ℕ = at1 + 1 + length (decimal 1) in
      let is = reads_all ins text at2 (spaced (out ∷ []) ++ tail) small refl m.left in
      let at3 : ℕ = after_all at2 ins in
      let os = reads_all (out ∷ []) text at3 tail (low, tt) refl is.left in
      let at4 : ℕ = after_all at3 (out ∷ []) in
      let w' : rule_at text at4 ≡ Ok (rule, at4 + 1 + length w) = ap (λ l. rule_in text (next_token text at4 l)) os.left ∙ known at4 in
      let e : at4 + suc (length w) ≡ at4 + 1 + length w = omega arith in
      let stop : drop (at4 + 1 + length w) text ≡ 10 ∷ more = sym (drop-drop (suc (length w)) at4 text ∙ ap (λ k. drop k text) e) ∙ ap (drop (suc (length w))) os.left ∙ drop_at w (10 ∷ more) (length w) refl in
      record {
        is = at2;
        os = at3;
        last = at4 + 1 + length w;
        gate = then_ok _ _ _ _ n.0 ∙ then_ok _ _ _ _ m.value ∙ then_ok _ _ _ _ is.value ∙ then_ok _ _ _ _ os.value ∙ then_ok _ _ _ _ w' ∙ then_ok _ _ _ _ (ends_here (at4 + 1 + length w) more stop);
        left = stop;
      }

  -- a line of widths
  pub record SumBack (wires at n : ℕ) (more : List ℕ) : Type 0 where
    pub last : ℕ
    pub sum : sum_at text wires at ≡ Ok (n, last)
    pub left : drop last text ≡ 10 ∷ more

  module _ (wires : ℕ) where
    none_back : (at : ℕ) (more : List ℕ) → drop at text ≡ 10 ∷ (decimal 0 ++ (10 ∷ more)) → SumBack wires at 0 more
    none_back at more here =
        let b = begins at (10 ∷ []) (decimal 0 ++ (10 ∷ more)) here (ap (λ k. 1 + k) (lead_number 0 (10 ∷ more) (omega arith))) in
        let n = reads_first text b.start 0 (10 ∷ more) (omega arith) refl b.left in
        record {
          last = b.start + length (decimal 0);
          sum = ap (λ s. then (number_at text s) (next text wires)) b.is ∙ then_ok _ _ _ (next text wires) n.0 ∙ then_ok _ _ _ _ (ends_here (b.start + length (decimal 0)) more n.1);
          left = n.1;
        }

    one_back : (at n : ℕ) (more : List ℕ) → 1 ≤ n → n ≤ wires → n < 2 ^ 32 → drop at text ≡ 10 ∷ (decimal 1 ++ (32 ∷ (decimal n ++ (10 ∷ more)))) → SumBack wires at n more
    one_back at n more some most small here =
        let b = begins at (10 ∷ []) (decimal 1 ++ (32 ∷ (decimal n ++ (10 ∷ more)))) here (ap (λ k. 1 + k) (lead_number 1 (32 ∷ (decimal n ++ (10 ∷ more))) (omega arith))) in
        let k = reads_first text b.start 1 (32 ∷ (decimal n ++ (10 ∷ more))) (omega arith) refl b.left in
        let at1 : ℕ = b.start + length (decimal 1) in
        let w = reads_one text at1 n (10 ∷ more) small refl k.1 in
        let at2 : ℕ = at1 + 1 + length (decimal n) in
        let ok : (leb 1 n && leb (0 + n) wires) ≡ true = and_from _ _ (le-leb 1 n some) (le-leb (0 + n) wires (omega arith)) in
        let all : widths_at text wires 1 0 at1 ≡ Ok (0 + n, at2) = then_ok _ _ _ _ w.value ∙ cond-true _ _ _ ok in
        let zero_n : 0 + n ≡ n = omega arith in
        record {
          last = at2;
          sum = ap (λ s. then (number_at text s) (next text wires)) b.is ∙ then_ok _ _ _ (next text wires) k.0 ∙ then_ok _ _ _ _ all ∙ then_ok _ _ _ _ (ends_here at2 more w.left) ∙ ap (λ x. Ok (x, at2)) zero_n;
          left = w.left;
        }

    pub sum_back : (at n : ℕ) (more : List ℕ) → n ≤ wires → n < 2 ^ 32 → drop at text ≡ 10 ∷ (width_text n ++ more) → SumBack wires at n more
    sum_back at n more most small here =
        ⊎_elim
        (λ y.
        let z : n ≡ 0 = eqb-true n 0 y in
        let t : 10 ∷ (width_text n ++ more) ≡ 10 ∷ (decimal 0 ++ (10 ∷ more)) = ap (λ x. 10 ∷ (x ++ more)) (cond-true (eqb n 0) (decimal 0 ++ (10 ∷ [])) (decimal 1 ++ (32 ∷ (decimal n ++ (10 ∷ [])))) y) ∙ ap (λ x. 10 ∷ x) (append_assoc (decimal 0) (10 ∷ []) more) in
        subst (λ m. SumBack wires at m more) (sym z) (none_back at more (here ∙ t)))
        (λ f.
        let t : 10 ∷ (width_text n ++ more) ≡ 10 ∷ (decimal 1 ++ (32 ∷ (decimal n ++ (10 ∷ more)))) = ap (λ x. 10 ∷ (x ++ more)) (cond-false (eqb n 0) (decimal 0 ++ (10 ∷ [])) (decimal 1 ++ (32 ∷ (decimal n ++ (10 ∷ [])))) f) ∙ simp append_assoc in
        one_back at n more (omega (arith, eqb-false n 0 f)) most small (here ∙ t))
        (cases_Bool (eqb n 0))
