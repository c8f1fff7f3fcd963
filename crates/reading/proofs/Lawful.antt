-- The wires that the lines of a text make keep the laws.
use Rattle.std.proofs.Common.{◌≡◌, ℕ, zero, suc, ◌+◌, ◌*◌, ◌<◌, ◌≤◌, true, false, cond, not, ◌&&◌, eqb, ltb, List, [], ◌∷◌, ◌++◌, length, Ok, Err, Result, sym, refl, ap, ◌∙◌, subst, ⊎_elim, add-one, arith}
use Rattle.std.proofs.lemmas.List.{length_push, get_or_push, get_or_append_left}
use Rattle.std.proofs.lemmas.Bool.{cond-true, cond-false, cases_eq, both_ways, and_parts, not-true, ltb-true, lt-ltb, eqb-true, eq-eqb, ne_eqb}
use Rattle.std.proofs.lemmas.Bool.Decides.{nat_tests}
use Rattle.circuits.specs.Circuits.{Feeds}
use Rattle.circuits.specs.declared.making.Entry.{Entry}
use Rattle.circuits.specs.declared.making.Making.TheVariants as making
use Rattle.circuits.specs.declared.answer.Refusal.TheVariants as refusal
use Rattle.tokens.specs.declared.fault.Fault.{Fault}
use Rattle.tokens.specs.declared.gate.Gate.{Gate}
use Rattle.tokens.specs.declared.gate.Gate.TheVariants.{Product, Sum, Inversion, Constant, Copy}
use Rattle.tokens.specs.declared.header.Header.{Header}
use Rattle.tokens.specs.declared.line.GateLine.{GateLine}
use Rattle.tokens.specs.declared.token.Numeral.{Numeral}
use Rattle.tokens.specs.Faults.{fault_at}
use Rattle.tokens.specs.Headers.{line_start}
use Rattle.tokens.specs.Tokens.{Piece, number, word, end, token_at}
use Rattle.tokens.specs.Lines.{Parsed, gate_at, line_at}
use Rattle.reading.specs.Texts.{rank, made, suits, input_ok, inputs_ok, making_of, value_at, make, after, line_makes, gate, gate_in, line_in, next_gate, gates_at, close, inputs, body_at, blank_entry, entry_at}
use Rattle.reading.specs.Holds.{two}
use Rattle.reading.proofs.Tested.{all_fine}
use Rattle.reading.proofs.Laws.{Sofar, Sound}
use Rattle.tokens.proofs.Readings.{err_ok, then_inv, ok_same, cond_inv}
use Rattle.reading.proofs.GateLines.{Good, gated, gate_line_is, facts}
use Rattle.reading.proofs.Heads.{Bounds}
use Rattle.reading.proofs.Inputs.{input}

pub after_inv : {A B : Type 0} (r : Result A Fault) (next : A → Result B Fault) (b : B) → after r next ≡ Ok b → (a : A) × (r ≡ Ok a) × (next a ≡ Ok b)
after_inv (Ok a) next b e = (a, refl, e)
after_inv (Err f) next b e = absurd (err_ok _ _ e)

-- a wire in the list is made
pub own_made : (es : List Entry) (j : ℕ) → j < length es → made es (entry_at es j).name ≡ true
own_made [] j lt = absurd (omega arith)
own_made (e ∷ es) zero lt = lt-ltb _ _ (omega (arith, cond-true (eqb e.name e.name) 0 (suc (rank es e.name)) (eq-eqb e.name e.name refl)))
own_made (e ∷ es) (suc j) lt = grind (arith, nat_tests, own_made es j (omega arith))

module _ (wires ins : ℕ) where
  module _ (es : List Entry) (s : Sofar wires ins es) (e : Entry) (real : e.making ≡ making.Input → ⊥) (below : Feeds (length es) e.making) (low : e.name < wires) (fresh : made es e.name ≡ false) where
    abbrev es' : List Entry
    es' = es ++ e ∷ []

    here : (k : ℕ) → k ≡ length es → entry_at es' k ≡ e
    here k q = get_or_push es e blank_entry k (sym q)

    there : (k : ℕ) → k < length es → entry_at es' k ≡ entry_at es k
    there k lt = get_or_append_left es (e ∷ []) blank_entry k lt

    within : (k : ℕ) → k < length es' → (k ≡ length es → ⊥) → k < length es
    within k lt ne = omega (arith, length_push es e)

    pub sofar_more : Sofar wires ins es'
    sofar_more =
        record {
          enough = omega (arith, length_push es e, s.enough);
          first = λ k lt. there k (omega (arith, s.enough)) ∙ s.first k lt;
          only = λ k le lt q.
              ⊎_elim
              (λ same. real (sym (ap (λ x. x.making) (here k same)) ∙ q))
              (λ other. let in' : k < length es = within k lt other in s.only k le in' (sym (ap (λ x. x.making) (there k in')) ∙ q))
              (cases_eq k (length es));
          fed = λ k lt.
              ⊎_elim
              (λ same. subst (λ x. Feeds k x.making) (sym (here k same)) (subst (λ j. Feeds j e.making) (sym same) below))
              (λ other. let in' : k < length es = within k lt other in subst (λ x. Feeds k x.making) (sym (there k in')) (s.fed k in'))
              (cases_eq k (length es));
          named = λ k lt.
              ⊎_elim
              (λ same. subst (λ x. x.name < wires) (sym (here k same)) low)
              (λ other. let in' : k < length es = within k lt other in subst (λ x. x.name < wires) (sym (there k in')) (s.named k in'))
              (cases_eq k (length es));
          apart = λ j k jk lt q.
              ⊎_elim
              (λ same.
              let in' : j < length es = omega arith in
              let names : (entry_at es j).name ≡ e.name = sym (ap (λ x. x.name) (there j in')) ∙ q ∙ ap (λ x. x.name) (here k same) in
              both_ways _ fresh (ap (made es) (sym names) ∙ own_made es j in'))
              (λ other.
              let in' : k < length es = within k lt other in
              s.apart j k jk in' (sym (ap (λ x. x.name) (there j (omega arith))) ∙ q ∙ ap (λ x. x.name) (there k in')))
              (cases_eq k (length es));
        }

  -- the circuit's inputs
  pub inputs_length : (k : ℕ) → length (inputs k) ≡ k
  inputs_length zero = refl
  inputs_length (suc k) = length_push (inputs k) (input k) ∙ ap (λ n. n + 1) (inputs_length k) ∙ add-one k

  pub inputs_get : (k j : ℕ) → j < k → entry_at (inputs k) j ≡ input j
  inputs_get zero j lt = absurd (omega arith)
  inputs_get (suc k) j lt =
      ⊎_elim
      (λ e. get_or_push (inputs k) (input k) blank_entry j (inputs_length k ∙ sym e) ∙ ap input (sym e))
      (λ ne. get_or_append_left (inputs k) (input k ∷ []) blank_entry j (omega (arith, inputs_length k)) ∙ inputs_get k j (omega arith))
      (cases_eq j k)

  pub sofar_inputs : ins ≤ wires → Sofar wires ins (inputs ins)
  sofar_inputs le =
      record {
        enough = omega (arith, inputs_length ins);
        first = λ k lt. inputs_get ins k lt;
        only = λ k ge lt q. absurd (omega (arith, inputs_length ins));
        fed = λ k lt. subst (λ x. Feeds k x.making) (sym (inputs_get ins k (omega (arith, inputs_length ins)))) tt;
        named = λ k lt. subst (λ x. x.name < wires) (sym (inputs_get ins k (omega (arith, inputs_length ins)))) (omega (arith, inputs_length ins));
        apart = λ j k jk lt q. absurd (omega (arith, sym (ap (λ x. x.name) (inputs_get ins j (omega (arith, inputs_length ins)))) ∙ q ∙ ap (λ x. x.name) (inputs_get ins k (omega (arith, inputs_length ins)))));
      }

  module _ (text : List ℕ) (before : List Entry) where
    no_input : (m : Gate) (a b : ℕ) → making_of m before a b ≡ making.Input → ⊥
    no_input Product a b e = let z : ◌≡◌ {A = ℕ} 0 1 = cc in omega arith
    no_input Sum a b e = let z : ◌≡◌ {A = ℕ} 0 1 = cc in omega arith
    no_input Inversion a b e = let z : ◌≡◌ {A = ℕ} 0 1 = cc in omega arith
    no_input Constant a b e = let z : ◌≡◌ {A = ℕ} 0 1 = cc in omega arith
    no_input Copy a b e = let z : ◌≡◌ {A = ℕ} 0 1 = cc in omega arith

    lower : (k a : ℕ) → length before ≤ k → made before a ≡ true → rank before a < k
    lower k a le y = omega (arith, ltb-true _ _ y)

    wire_below : (k : ℕ) → length before ≤ k → (m : Gate) (a b : ℕ) → input_ok m before a ≡ true → (two m ≡ true → input_ok m before b ≡ true) → Feeds k (making_of m before a b)
    wire_below k le Product a b ya yb = (lower k a le ya, lower k b le (yb refl))
    wire_below k le Sum a b ya yb = (lower k a le ya, lower k b le (yb refl))
    wire_below k le Inversion a b ya yb = lower k a le ya
    wire_below k le Constant a b ya yb = tt
    wire_below k le Copy a b ya yb = lower k a le ya

    module _ (m : Gate) where
      module _ (is : List Numeral) (n : ℕ) (fine : (k : ℕ) → k < length is → input_ok m before (value_at is k) ≡ true) (counts : length is ≡ cond (two m) (2 * n) n) where
        one : (j : ℕ) → j < n → j < length is
        one j lt = grind (arith, nat_tests)

        other : (j : ℕ) → j < n → two m ≡ true → n + j < length is
        other j lt y = grind (arith, nat_tests)

        pub sofar_make : (rs : List Numeral) (j : ℕ) (es out : List Entry) → j + length rs ≤ n → Sofar wires ins es → length before ≤ length es → make text wires m before is n j rs es ≡ Ok out → Sofar wires ins out
        sofar_make [] j es out room s le e = subst (Sofar wires ins) (ok_same _ _ e) s
        sofar_make (r ∷ rs) j es out room s le e =
            let new : Entry = record { making = making_of m before (value_at is j) (value_at is (n + j)); name = r.value } in
            let c = cond_inv (ltb r.value wires && not (made es r.value)) (make text wires m before is n (suc j) rs (es ++ new ∷ [])) (fault_at text refusal.BadResult r.at) out e in
            let p = and_parts _ _ c.0 in
            let b : Feeds (length es) new.making = wire_below (length es) le m (value_at is j) (value_at is (n + j)) (fine j (one j (omega arith))) (λ y. fine (n + j) (other j (omega arith) y)) in
            sofar_make rs (suc j) (es ++ new ∷ []) out (omega arith) (sofar_more es s new (no_input m (value_at is j) (value_at is (n + j))) b (ltb-true _ _ p.0) (not-true _ p.1)) (omega (arith, length_push es new)) c.1

  gated_good : (text : List ℕ) (at : ℕ) (r : Result (GateLine × ℕ) Fault) (p : Parsed × ℕ) → ((q : GateLine × ℕ) → r ≡ Ok q → Good q.0.rule) → gated text r ≡ Ok p → Good p.0.rule
  gated_good text at (Ok q) p h e = subst (λ g. Good g.rule) (ap (λ x. x.0) (ok_same _ _ e)) (h q refl)
  gated_good text at (Err f) p h e = absurd (err_ok _ _ e)

  module _ (text : List ℕ) where
    good_gate : (at : ℕ) (p : Parsed × ℕ) → gate_at text at ≡ Ok p → Good p.0.rule
    good_gate at p e = gated_good text at (line_at text at) p (λ q r. (facts text at q r).good) (gate_line_is text at ∙ e)

    sofar_gate : (es : List Entry) (at : ℕ) (p : List Entry × ℕ) → Sofar wires ins es → gate_in text wires es at ≡ Ok p → Sofar wires ins p.0
    sofar_gate es at p s e =
        let a = then_inv (gate_at text at) _ p e in
        let g : Parsed = a.0.0 in
        let b = after_inv (gate text wires es g) _ p a.2 in
        let c = cond_inv (suits g.rule (length g.inputs) (length g.results)) (line_makes text wires es g) _ b.0 b.1 in
        let d = after_inv (inputs_ok text g.rule.making es g.inputs) _ b.0 c.1 in
        let counts = good_gate at a.0 a.1 (length g.inputs) (length g.results) c.0 in
        let made_all = sofar_make text es g.rule.making g.inputs (length g.results) (all_fine text es g.rule.making g.inputs d.0 d.1) counts g.results 0 es b.0 (omega arith) s (omega arith) d.2 in
        subst (Sofar wires ins) (ap (λ x. x.0) (ok_same _ _ b.2)) made_all

    sofar_line : (es : List Entry) (at : ℕ) (t : Result Piece Fault) (p : List Entry × ℕ) → Sofar wires ins es → line_in text wires es at t ≡ Ok p → Sofar wires ins p.0
    sofar_line es at (Ok (number n bs _)) p s e = sofar_gate es at p s e
    sofar_line es at (Ok (word bs _)) p s e = sofar_gate es at p s e
    sofar_line es at (Ok (end z)) p s e = absurd (err_ok _ _ e)
    sofar_line es at (Err f) p s e = absurd (err_ok _ _ e)

    sofar_gates : (k : ℕ) (es : List Entry) (at : ℕ) (p : List Entry × ℕ) → Sofar wires ins es → gates_at text wires k es at ≡ Ok p → Sofar wires ins p.0
    sofar_gates zero es at p s e = subst (Sofar wires ins) (ap (λ x. x.0) (ok_same _ _ e)) s
    sofar_gates (suc k) es at p s e =
        let a = then_inv (next_gate text wires es at) _ p e in
        sofar_gates k a.0.0 a.0.1 p (sofar_line es (line_start text at) (token_at text (line_start text at)) a.0 s a.1) a.2

    closed : (es out : List Entry) (t : Result Piece Fault) → close text wires es t ≡ Ok out → (length es ≡ wires) × (es ≡ out)
    closed es out (Ok (number n bs at)) e = absurd (err_ok _ _ e)
    closed es out (Ok (word bs at)) e = absurd (err_ok _ _ e)
    closed es out (Ok (end at)) e = let c = cond_inv (eqb (length es) wires) (Ok es) (fault_at text refusal.WrongTotal at) out e in (eqb-true _ _ c.0, ok_same _ _ c.1)
    closed es out (Err f) e = absurd (err_ok _ _ e)

pub body_sound : (text : List ℕ) (h : Header) (at : ℕ) (es : List Entry) → Bounds h → body_at text h at ≡ Ok es → Sound h.wires h.inputs h.outputs es
body_sound text h at es b e =
    let a = then_inv (gates_at text h.wires h.gates (inputs h.inputs) at) _ es e in
    let c = closed h.wires h.inputs text a.0.0 es (token_at text (line_start text a.0.1)) a.2 in
    let s = sofar_gates h.wires h.inputs text h.gates (inputs h.inputs) at a.0 (sofar_inputs h.wires h.inputs b.inputs) a.1 in
    record { some = b.some; most = b.most; outputs_fit = b.outputs; all = sym (ap length c.1) ∙ c.0; laws = subst (Sofar h.wires h.inputs) c.1 s }

-- the rank of a wire's name is its place
pub rank_own : (es : List Entry) (k : ℕ) → k < length es → ((j : ℕ) → j < k → (entry_at es j).name ≡ (entry_at es k).name → ⊥) → rank es (entry_at es k).name ≡ k
rank_own [] k lt apart = absurd (omega arith)
rank_own (e ∷ es) zero lt apart = cond-true _ _ _ (eq-eqb e.name e.name refl)
rank_own (e ∷ es) (suc k) lt apart =
    cond-false (eqb e.name (entry_at es k).name) 0 (suc (rank es (entry_at es k).name)) (ne_eqb _ _ (apart 0 (omega arith)))
    ∙ ap suc (rank_own es k (omega arith) (λ j jk. apart (suc j) (omega arith)))
