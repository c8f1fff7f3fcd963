-- The text of a sound table is read as that table.
use Rattle.std.proofs.Common.{◌≡◌, ℕ, ◌+◌, ◌-◌, ◌^◌, ◌<◌, ◌≤◌, Bool, true, false, cond, not, ◌&&◌, eqb, ltb, leb, List, [], ◌∷◌, ◌++◌, length, take, drop, Ok, Err, codes, decimal, Result, sym, refl, ap, ◌∙◌, subst, ⊎_elim, append_assoc, append-nil, arith, length-append}
use Rattle.std.specs.List.{prefix_len}
use Rattle.std.proofs.lemmas.List.{get_or_append_left, get_or_at, length_push, length-take-le, take-append-drop, length-drop, get_or_past, ext_get_or, get_or-take}
use Rattle.std.proofs.lemmas.Bool.{cond-true, cases_Bool, cases_lt, eq-eqb, le-leb, lt-ltb, ltb-true, and_from, not_from_false}
use Rattle.circuits.specs.Circuits.{Feeds}
use Rattle.circuits.specs.declared.making.Entry.{Entry}
use Rattle.circuits.specs.declared.making.Making.{Making}
use Rattle.circuits.specs.declared.making.Making.TheVariants as making
use Rattle.circuits.specs.declared.answer.Refusal.TheVariants as refusal
use Rattle.tokens.specs.declared.fault.Fault.{Fault}
use Rattle.tokens.specs.declared.gate.Count.TheVariants.{Exactly}
use Rattle.tokens.specs.declared.gate.Gate.TheVariants.{Product, Sum, Inversion, Constant, Copy}
use Rattle.tokens.specs.declared.gate.Rule.{Rule}
use Rattle.tokens.specs.declared.header.Header.{Header}
use Rattle.tokens.specs.declared.token.Numeral.{Numeral}
use Rattle.tokens.specs.Faults.{fault_at}
use Rattle.tokens.specs.Places.{line_of}
use Rattle.tokens.specs.Headers.{gap, line_start, sum_at, header_at}
use Rattle.tokens.specs.Tokens.{number, end, next_token, token_at}
use Rattle.tokens.specs.Lines.{Parsed, then, number_at, rule_in, end_at}
use Rattle.reading.specs.Texts.{rank, made, suits, inputs_ok, making_of, value_at, make, after, gate, gate_in, line_in, next_gate, gates_at, close, inputs, body_at, filled, read_body, read_on, read, blank_entry, entry_at}
use Rattle.reading.proofs.Laws.{Sound}
use Rattle.reading.proofs.Tabled.{rank_name}
use Rattle.reading.proofs.Lawful.{own_made, rank_own, inputs_length, inputs_get}
use Rattle.writing.specs.Writes.{spaced, gate_text, name_of, making_text, wires_text, width_text, circuit_text}
use Rattle.writing.proofs.Written.{Small, places, token_back, reads_one, reads_first, then_ok, lead_number, first_line}
use Rattle.writing.proofs.Back.{ends_here, begins, gate_back, sum_back}
use Rattle.writing.proofs.Lengths.{written_len}

module _ (text : List ℕ) (wires : ℕ) (es done : List Entry) where
  pub record Stepped (e : Entry) (at : ℕ) (more : List ℕ) : Type 0 where
    pub last : ℕ
    pub token : ℕ
    pub bytes : List ℕ
    pub read : token_at text at ≡ Ok (number token bytes at)
    pub made_it : gate_in text wires done at ≡ Ok (done ++ e ∷ [], last)
    pub left : drop last text ≡ 10 ∷ more

  gate_one : (g : Parsed) (es' : List Entry) → suits g.rule (length g.inputs) (length g.results) ≡ true → inputs_ok text g.rule.making done g.inputs ≡ Ok tt → make text wires g.rule.making done g.inputs (length g.results) 0 g.results done ≡ Ok es' → gate text wires done g ≡ Ok es'
  gate_one g es' y i m = cond-true _ _ _ y ∙ ap (λ r. after r (λ _. make text wires g.rule.making done g.inputs (length g.results) 0 g.results done)) i ∙ m

  module _ (n : ℕ) (low : n < wires) (small : n < 2 ^ 32) (fresh : made done n ≡ false) (at : ℕ) (more : List ℕ) where
    step_by : (ins w : List ℕ) (rule : Rule) (wr : Making) → length ins < 10 → Small ins → ((a : ℕ) → rule_in text (next_token text a (32 ∷ (w ++ (10 ∷ more)))) ≡ Ok (rule, a + 1 + length w)) → drop at text ≡ gate_text ins n w ++ more → ((p : ℕ) → suits rule (length (places p ins)) 1 ≡ true) → ((p : ℕ) → inputs_ok text rule.making done (places p ins) ≡ Ok tt) → ((p : ℕ) → making_of rule.making done (value_at (places p ins) 0) (value_at (places p ins) (1 + 0)) ≡ wr) → Stepped (record { making = wr; name = n }) at more
    step_by ins w rule wr few smalls known here fits fine meant =
        let b = gate_back text at ins n w rule more few smalls small known here in
        let ok : (ltb n wires && not (made done n)) ≡ true = and_from _ _ (lt-ltb n wires low) (not_from_false _ fresh) in
        let g : Parsed = record { first = at; inputs = places b.is ins; results = places b.os (n ∷ []); rule = rule } in
        let m : make text wires rule.making done (places b.is ins) 1 0 (places b.os (n ∷ [])) done ≡ Ok (done ++ record { making = wr; name = n } ∷ []) = cond-true _ _ _ ok ∙ ap (λ x. Ok (done ++ record { making = x; name = n } ∷ [])) (meant b.is) in
        record {
          last = b.last;
          token = length ins;
          bytes = decimal (length ins);
          read = ap (next_token text at) (here ∙ append_assoc (decimal (length ins)) (32 ∷ (decimal 1 ++ (spaced ins ++ (32 ∷ (decimal n ++ (32 ∷ (w ++ (10 ∷ [])))))))) more) ∙ token_back text at (length ins) _ (omega arith) refl;
          made_it = then_ok _ _ _ _ b.gate ∙ ap (λ r. after r (λ es'. Ok (es', b.last))) (gate_one g (done ++ record { making = wr; name = n } ∷ []) (fits b.is) (fine b.is) m);
          left = b.left;
        }

    -- each operand is made, at its rank
    module _ (known : (a : ℕ) → a < length done → (made done (name_of es a) ≡ true) × (rank done (name_of es a) ≡ a)) (names : (a : ℕ) → name_of es a < 2 ^ 32) where
      bit_small : (b : Bool) → cond b 1 0 < 2 ^ 32
      bit_small true = omega arith
      bit_small false = omega arith

      bit_fine : (b : Bool) (p : ℕ) → inputs_ok text Constant done (places p (cond b 1 0 ∷ [])) ≡ Ok tt
      bit_fine true p = refl
      bit_fine false p = refl

      bit_meant : (b : Bool) → making.Constant (eqb (cond b 1 0) 1) ≡ making.Constant b
      bit_meant true = refl
      bit_meant false = refl

      pub step_wire : (w : Making) → (w ≡ making.Input → ⊥) → Feeds (length done) w → drop at text ≡ making_text es w n ++ more → Stepped (record { making = w; name = n }) at more
      step_wire making.Input no_input below here = absurd (no_input refl)
      step_wire (making.Constant b) no_input below here = step_by (cond b 1 0 ∷ []) (codes "EQ") (record { inputs = Exactly 1; results = Exactly 1; making = Constant }) (making.Constant b) (omega arith) (bit_small b, tt) (λ a. refl) here (λ p. refl) (bit_fine b) (λ p. bit_meant b)
      step_wire (making.Copy a) no_input below here = step_by (name_of es a ∷ []) (codes "EQW") (record { inputs = Exactly 1; results = Exactly 1; making = Copy }) (making.Copy a) (omega arith) (names a, tt) (λ a. refl) here (λ p. refl) (λ p. cond-true _ _ _ (known a below).0) (λ p. ap making.Copy (known a below).1)
      step_wire (making.Inversion a) no_input below here = step_by (name_of es a ∷ []) (codes "INV") (record { inputs = Exactly 1; results = Exactly 1; making = Inversion }) (making.Inversion a) (omega arith) (names a, tt) (λ a. refl) here (λ p. refl) (λ p. cond-true _ _ _ (known a below).0) (λ p. ap making.Inversion (known a below).1)
      step_wire (making.Sum a b) no_input below here = step_by (name_of es a ∷ name_of es b ∷ []) (codes "XOR") (record { inputs = Exactly 2; results = Exactly 1; making = Sum }) (making.Sum a b) (omega arith) (names a, (names b, tt)) (λ a. refl) here (λ p. refl) (λ p. cond-true _ _ _ (known a below.0).0 ∙ cond-true _ _ _ (known b below.1).0) (λ p. ap (λ x. making.Sum x (rank done (name_of es b))) (known a below.0).1 ∙ ap (making.Sum a) (known b below.1).1)
      step_wire (making.Product a b) no_input below here = step_by (name_of es a ∷ name_of es b ∷ []) (codes "AND") (record { inputs = Exactly 2; results = Exactly 1; making = Product }) (making.Product a b) (omega arith) (names a, (names b, tt)) (λ a. refl) here (λ p. refl) (λ p. cond-true _ _ _ (known a below.0).0 ∙ cond-true _ _ _ (known b below.1).0) (λ p. ap (λ x. making.Product x (rank done (name_of es b))) (known a below.0).1 ∙ ap (making.Product a) (known b below.1).1)

-- the gate lines of a lawful circuit
module _ (text : List ℕ) (h : Header) (es : List Entry) (l : Sound h.wires h.inputs h.outputs es) where
  names_small : (a : ℕ) → name_of es a < 2 ^ 32
  names_small a =
      ⊎_elim
      (λ lt. omega (arith, l.laws.named a lt, l.most))
      (λ ge. subst (λ e. e.name < 2 ^ 32) (sym (get_or_past es a blank_entry ge)) (omega arith))
      (cases_lt a (length es))

  module _ (done : List Entry) (e : Entry) (rest : List Entry) (whole : es ≡ done ++ e ∷ rest) where
    old : (k : ℕ) → k < length done → entry_at es k ≡ entry_at done k
    old k lt = ap (λ x. entry_at x k) whole ∙ get_or_append_left done (e ∷ rest) blank_entry k lt

    new : entry_at es (length done) ≡ e
    new = ap (λ x. entry_at x (length done)) whole ∙ get_or_at done e rest blank_entry (length done) refl

    longer : length done < length es
    longer = omega (arith, ap length whole, length-append done (e ∷ rest))

    ranked : (a : ℕ) → a < length done → (made done (name_of es a) ≡ true) × (rank done (name_of es a) ≡ a)
    ranked a lt =
        let same : (entry_at done a).name ≡ name_of es a = ap (λ x. x.name) (sym (old a lt)) in (
          ap (made done) (sym same) ∙ own_made done a lt,
          ap (rank done) (sym same) ∙ rank_own done a lt (λ j jk q. l.laws.apart j a jk (omega (arith, longer)) (ap (λ x. x.name) (old j (omega arith)) ∙ q ∙ same)),
        )

    fresh : made done e.name ≡ false
    fresh =
        ⊎_elim
        (λ y.
        let low : rank done e.name < length done = ltb-true _ _ y in
        absurd (l.laws.apart (rank done e.name) (length done) low longer (ap (λ x. x.name) (old (rank done e.name) low) ∙ rank_name done e.name y ∙ sym (ap (λ x. x.name) new))))
        (λ f. f)
        (cases_Bool (made done e.name))

    pub step : h.inputs ≤ length done → (at : ℕ) (more : List ℕ) → drop at text ≡ making_text es e.making e.name ++ more → Stepped text h.wires es done e at more
    step enough at more here =
        let low : e.name < h.wires = subst (λ x. x.name < h.wires) new (l.laws.named (length done) longer) in
        step_wire text h.wires es done e.name low (omega (arith, l.most)) fresh at more ranked names_small e.making
        (λ q. l.laws.only (length done) enough longer (ap (λ x. x.making) new ∙ q))
        (subst (λ x. Feeds (length done) x.making) new (l.laws.fed (length done) longer)) here

  -- a wire's line begins with a digit
  lead_gate : (ins : List ℕ) (n : ℕ) (w more : List ℕ) → length ins < 10 → prefix_len gap (gate_text ins n w ++ more) ≡ 0
  lead_gate ins n w more few = ap (prefix_len gap) (append_assoc (decimal (length ins)) (32 ∷ (decimal 1 ++ (spaced ins ++ (32 ∷ (decimal n ++ (32 ∷ (w ++ (10 ∷ [])))))))) more) ∙ lead_number (length ins) _ (omega arith)

  lead_wire : (w : Making) (n : ℕ) (more : List ℕ) → (w ≡ making.Input → ⊥) → prefix_len gap (making_text es w n ++ more) ≡ 0
  lead_wire making.Input n more no_input = absurd (no_input refl)
  lead_wire (making.Constant b) n more no_input = lead_gate (cond b 1 0 ∷ []) n (codes "EQ") more (omega arith)
  lead_wire (making.Copy a) n more no_input = lead_gate (name_of es a ∷ []) n (codes "EQW") more (omega arith)
  lead_wire (making.Inversion a) n more no_input = lead_gate (name_of es a ∷ []) n (codes "INV") more (omega arith)
  lead_wire (making.Sum a b) n more no_input = lead_gate (name_of es a ∷ name_of es b ∷ []) n (codes "XOR") more (omega arith)
  lead_wire (making.Product a b) n more no_input = lead_gate (name_of es a ∷ name_of es b ∷ []) n (codes "AND") more (omega arith)

  abbrev ending : List Entry → ℕ → Result (List Entry) Fault
  ending es' on = close text h.wires es' (token_at text (line_start text on))

  then_then : {A B C : Type 0} (r : Result (A × ℕ) Fault) (f : A → ℕ → Result (B × ℕ) Fault) (g : B → ℕ → Result C Fault) (a : A) (on : ℕ) → r ≡ Ok (a, on) → then (then r f) g ≡ then (f a on) g
  then_then r f g a on e = ap (λ x. then (then x f) g) e

  pub gates_back : (rest done : List Entry) (at : ℕ) (gaps : List ℕ) → ((r : List ℕ) → prefix_len gap r ≡ 0 → prefix_len gap (gaps ++ r) ≡ length gaps) → es ≡ done ++ rest → h.inputs ≤ length done → drop at text ≡ gaps ++ wires_text es rest → then (gates_at text h.wires (length rest) done at) ending ≡ Ok es
  gates_back [] done at gaps run whole enough here =
      let b = begins text at gaps [] here (run [] refl) in
      let all : es ≡ done = whole ∙ append-nil done in
      let t : token_at text (line_start text at) ≡ Ok (end b.start) = ap (token_at text) b.is ∙ ap (next_token text b.start) b.left in
      ap (close text h.wires done) t ∙ cond-true _ _ _ (eq-eqb (length done) h.wires (sym (ap length all) ∙ l.all)) ∙ ap Ok (sym all)
  gates_back (e ∷ rest) done at gaps run whole enough here =
      let new_is : entry_at es (length done) ≡ e = new done e rest whole in
      let real : e.making ≡ making.Input → ⊥ = λ q. l.laws.only (length done) enough (longer done e rest whole) (ap (λ x. x.making) new_is ∙ q) in
      let b = begins text at gaps (making_text es e.making e.name ++ wires_text es rest) here (run (making_text es e.making e.name ++ wires_text es rest) (lead_wire e.making e.name (wires_text es rest) real)) in
      let s = step done e rest whole enough b.start (wires_text es rest) b.left in
      let one : next_gate text h.wires done at ≡ Ok (done ++ e ∷ [], s.last) = ap (λ k. line_in text h.wires done k (token_at text k)) b.is ∙ ap (line_in text h.wires done b.start) s.read ∙ s.made_it in
      then_then _ _ _ _ _ one
      ∙ gates_back rest (done ++ e ∷ []) s.last (10 ∷ []) (λ r q. ap (λ k. 1 + k) q) (whole ∙ sym (append_assoc done (e ∷ []) rest)) (omega (arith, length_push done e)) s.left

-- the first three lines, an empty one and what follows
abbrev head_text' : ℕ → ℕ → ℕ → ℕ → List ℕ → List ℕ
head_text' gates wires ins outs more = decimal gates ++ (32 ∷ (decimal wires ++ (10 ∷ (width_text ins ++ (width_text outs ++ (10 ∷ more))))))

abbrev head_next : List ℕ → Numeral → ℕ → Result (Header × ℕ) Fault
head_next text g a =
    then (number_at text a) (λ w b.
    cond (leb 1 w.value && leb w.value 1048576)
    (then (end_at text b) (λ _ c. then (sum_at text w.value c) (λ i d. then (sum_at text w.value d) (λ o last.
    Ok (record { gates = g.value; wires = w.value; wires_at = w.at; wires_line = line_of text w.at; inputs = i; outputs = o }, last)))))
    (Err (fault_at text refusal.CountOutOfBounds w.at)))

-- a lawful circuit begins with its inputs
first_are : (ins outs : ℕ) (es : List Entry) (h : Header) → Sound h.wires h.inputs h.outputs es → h.inputs ≡ ins → inputs ins ≡ take ins es
first_are ins outs es h l hi =
    let few : ins ≤ length es = omega (arith, hi, l.laws.enough) in
    let len : length (inputs ins) ≡ ins = inputs_length 0 0 ins in
    ext_get_or blank_entry (inputs ins) (take ins es) (len ∙ sym (length-take-le ins es few)) (λ k lt.
    let k_in : k < ins = omega arith in
    inputs_get 0 0 ins k k_in ∙ sym (l.laws.first k (omega arith)) ∙ sym (get_or-take ins es k blank_entry k_in))

-- the header that is read of a text with these counts
abbrev pub header_of : ℕ → ℕ → ℕ → ℕ → Header
header_of gates wires ins outs = record { gates = gates; wires = wires; wires_at = length (decimal gates) + 1; wires_line = 1; inputs = ins; outputs = outs }

-- the first three lines
pub record HeadBack (text : List ℕ) (gates wires ins outs : ℕ) (more : List ℕ) : Type 0 where
  pub last : ℕ
  pub head : header_at text 0 ≡ Ok (header_of gates wires ins outs, last)
  pub left : drop last text ≡ 10 ∷ (10 ∷ more)

pub head_back : (text : List ℕ) (gates wires ins outs : ℕ) (more : List ℕ) → gates < 2 ^ 32 → 1 ≤ wires → wires ≤ 1048576 → ins ≤ wires → outs ≤ wires → text ≡ head_text' gates wires ins outs more → HeadBack text gates wires ins outs more
head_back text gates wires ins outs more small some most few fewer here =
    let r1 : List ℕ = 32 ∷ (decimal wires ++ (10 ∷ (width_text ins ++ (width_text outs ++ (10 ∷ more))))) in
    let begin : line_start text 0 ≡ 0 = ap (λ x. 0 + prefix_len gap x) here ∙ ap (λ k. 0 + k) (lead_number gates r1 small) in
    let n = reads_first text 0 gates r1 small refl here in
    let at1 : ℕ = 0 + length (decimal gates) in
    let w = reads_one text at1 wires (10 ∷ (width_text ins ++ (width_text outs ++ (10 ∷ more)))) (omega arith) refl n.1 in
    let at2 : ℕ = at1 + 1 + length (decimal wires) in
    let i = sum_back text wires at2 ins (width_text outs ++ (10 ∷ more)) few (omega arith) w.left in
    let o = sum_back text wires i.last outs (10 ∷ more) fewer (omega arith) i.left in
    let ok : (leb 1 wires && leb wires 1048576) ≡ true = and_from _ _ (le-leb 1 wires some) (le-leb wires 1048576 most) in
    let z : at1 + 1 ≡ length (decimal gates) + 1 = omega arith in
    record {
      last = o.last;
      head = ap (λ k. then (number_at text k) (head_next text)) begin ∙ then_ok _ _ _ (head_next text) n.0 ∙ then_ok _ _ _ _ w.value ∙ cond-true _ _ _ ok ∙ then_ok _ _ _ _ (ends_here text at2 _ w.left) ∙ then_ok _ _ _ _ i.sum ∙ then_ok _ _ _ _ o.sum
          ∙ ap (λ k. Ok (record { gates = gates; wires = wires; wires_at = k; wires_line = line_of text k; inputs = ins; outputs = outs }, o.last)) z
          ∙ ap (λ k. Ok (record { gates = gates; wires = wires; wires_at = length (decimal gates) + 1; wires_line = k; inputs = ins; outputs = outs }, o.last)) (first_line text gates _ small here);
      left = o.left;
    }

pub round : (ins outs : ℕ) (es : List Entry) → Sound (length es) ins outs es → (limit rows names : ℕ) → length (circuit_text ins outs es) ≤ limit → length es ≤ rows → length es ≤ names → read (circuit_text ins outs es) limit rows names ≡ filled (header_of (length es - ins) (length es) ins outs) es
round ins outs es l limit rows names kept r n =
    let hd : Header = header_of (length es - ins) (length es) ins outs in
    let text : List ℕ = circuit_text ins outs es in
    let few : ins ≤ length es = l.laws.enough in
    let fewer : outs ≤ length es = l.outputs_fit in
    let names_fit : (a : ℕ) → name_of es a < 2 ^ 32 = names_small text hd es l in
    let size : length text ≤ 67108864 = written_len ins outs es names_fit few (omega (arith, l.all, l.most)) (omega (arith, l.all, l.most)) in
    let shape : text ≡ head_text' (length es - ins) (length es) ins outs (wires_text es (drop ins es)) = simp append_assoc in
    let b = head_back text (length es - ins) (length es) ins outs (wires_text es (drop ins es)) (omega (arith, l.all, l.most)) (omega (arith, l.all, l.some)) (omega (arith, l.all, l.most)) few fewer shape in
    let first : inputs ins ≡ take ins es = first_are ins outs es hd l refl in
    let body : body_at text hd b.last ≡ Ok es =
    let whole : es ≡ inputs ins ++ drop ins es = sym (take-append-drop ins es) ∙ ap (λ x. x ++ drop ins es) (sym first) in
    let g = gates_back text hd es l (drop ins es) (inputs ins) b.last (10 ∷ 10 ∷ []) (λ x q. ap (λ k. 1 + (1 + k)) q) whole (omega (arith, inputs_length 0 0 ins)) b.left in
    ap (λ k. then (gates_at text (length es) k (inputs ins) b.last) (λ es' on. close text (length es) es' (token_at text (line_start text on)))) (sym (length-drop ins es)) ∙ g in
    cond-true _ _ _ (and_from _ _ (le-leb (length text) limit kept) (le-leb (length text) 67108864 size)) ∙ ap (read_on text rows names) b.head ∙ cond-true _ _ _ (and_from _ _ (le-leb (length es) rows r) (le-leb (length es) names n)) ∙ ap (read_body hd) body
