-- What the answer to a text says.
use Rattle.std.proofs.Common.{◌≡◌, ℕ, zero, suc, ◌+◌, ◌≤◌, Bool, true, false, cond, not, ◌&&◌, eqb, ltb, leb, List, [], ◌∷◌, ◌++◌, length, take, Some, Ok, Err, Result, sym, refl, ap, ◌∙◌, subst, arith}
use Rattle.std.proofs.lemmas.List.{take_at}
use Rattle.circuits.proofs.TableTests.{fits_from_kept}
use Rattle.circuits.specs.Tables.{Kept, tabled}
use Rattle.circuits.specs.declared.making.Entry.{Entry}
use Rattle.circuits.specs.declared.answer.Refusal.TheVariants as refusal
use Rattle.tokens.specs.declared.fault.Fault.{Fault}
use Rattle.tokens.specs.declared.gate.Gate.{Gate}
use Rattle.tokens.specs.declared.header.Header.{Header}
use Rattle.tokens.specs.declared.token.Numeral.{Numeral}
use Rattle.tokens.specs.Places.{token_lines}
use Rattle.tokens.specs.Faults.{Placed}
use Rattle.tokens.specs.Headers.{line_start, header_at}
use Rattle.tokens.specs.Tokens.{Piece, number, word, end, token_at}
use Rattle.tokens.specs.Lines.{Parsed, gate_at}
use Rattle.tokens.proofs.Readings.{err_ok, ok_same, then_inv}
use Rattle.tokens.proofs.Counts.{left, start_counts, gate_counts, header_counts, none_counts}
use Rattle.tokens.proofs.Inside.{Fine, fault_fine, cond_fine, then_fine, Stops, Lies, token_fine, AllIn, GateIn, gate_fine, start_fine, HeaderIn, header_fine}
use Rattle.reading.specs.Texts.{made, suits, input_ok, inputs_ok, making_of, value_at, make, after, line_makes, gate, gate_in, line_in, next_gate, gates_at, close, inputs, body_at, Outcome, untouched, cleared, filled, read_body, read_on, read, answer, circuit_of, table_after, ranks_after, ranks_of}
use Rattle.reading.specs.Accepted.{Accepted, Answered}
use Rattle.reading.proofs.Laws.{Sound}
use Rattle.reading.proofs.Heads.{Bounds, bounds}
use Rattle.reading.proofs.Inputs.{ranks_length}
use Rattle.reading.proofs.Lawful.{after_inv, body_sound}
use Rattle.reading.proofs.Tabled.{sound_kept}

-- any answer
abbrev Any : {A : Type 0} → A → Type 0
Any a = Unit {0}

module _ (text : List ℕ) (wires : ℕ) where
  after_fine : {A B : Type 0} (P : A → Type 0) (Q : B → Type 0) (r : Result A Fault) (next : A → Result B Fault) → Fine text P r → ((a : A) → P a → Fine text Q (next a)) → Fine text Q (after r next)
  after_fine P Q (Ok a) next h k = k a h
  after_fine P Q (Err f) next h k = h

  inputs_fine : (m : Gate) (es : List Entry) (is : List Numeral) → AllIn text is → Fine text Any (inputs_ok text m es is)
  inputs_fine m es [] h = tt
  inputs_fine m es (i ∷ is) h = cond_fine text Any (input_ok m es i.value) (inputs_ok text m es is) _ (inputs_fine m es is h.1) (fault_fine text refusal.BadInput i.at h.0)

  make_fine : (m : Gate) (before : List Entry) (ins : List Numeral) (n j : ℕ) (rs : List Numeral) (es : List Entry) → AllIn text rs → Fine text Any (make text wires m before ins n j rs es)
  make_fine m before ins n j [] es h = tt
  make_fine m before ins n j (r ∷ rs) es h =
      let more : List Entry = es ++ record { making = making_of m before (value_at ins j) (value_at ins (n + j)); name = r.value } ∷ [] in
      cond_fine text Any (ltb r.value wires && not (made es r.value)) (make text wires m before ins n (suc j) rs more) _ (make_fine m before ins n (suc j) rs more h.1) (fault_fine text refusal.BadResult r.at h.0)

  makes_fine : (es : List Entry) (g : Parsed) → AllIn text g.inputs → AllIn text g.results → Fine text Any (line_makes text wires es g)
  makes_fine es g i o = after_fine Any Any (inputs_ok text g.rule.making es g.inputs) _ (inputs_fine g.rule.making es g.inputs i) (λ _ _. make_fine g.rule.making es g.inputs (length g.results) 0 g.results es o)

  gate_in_fine : (es : List Entry) (at : ℕ) → at ≤ length text → Fine text (Stops text) (gate_in text wires es at)
  gate_in_fine es at h =
      then_fine text (GateIn text) (Stops text) (gate_at text at) _ (gate_fine text at h) (λ p i.
      after_fine Any (Stops text) (gate text wires es p.0) _
      (cond_fine text Any (suits p.0.rule (length p.0.inputs) (length p.0.results)) (line_makes text wires es p.0) _ (makes_fine es p.0 i.1.0 i.1.1.0) (fault_fine text refusal.CountsDoNotSuit p.0.first i.0))
      (λ _ _. i.1.1.1))

  line_in_fine : (es : List Entry) (at : ℕ) (t : Result Piece Fault) → at ≤ length text → Fine text (Lies text) t → Fine text (Stops text) (line_in text wires es at t)
  line_in_fine es at (Ok (number n bs _)) h i = gate_in_fine es at h
  line_in_fine es at (Ok (word bs _)) h i = gate_in_fine es at h
  line_in_fine es at (Ok (end e)) h i = fault_fine text refusal.WrongTotal e i
  line_in_fine es at (Err f) h i = i

  gates_fine : (k : ℕ) (es : List Entry) (at : ℕ) → at ≤ length text → Fine text (Stops text) (gates_at text wires k es at)
  gates_fine zero es at h = h
  gates_fine (suc k) es at h =
      let s : line_start text at ≤ length text = start_fine text at h in
      then_fine text (Stops text) (Stops text) (next_gate text wires es at) _ (line_in_fine es (line_start text at) (token_at text (line_start text at)) s (token_fine text (line_start text at) s)) (λ p i. gates_fine k p.0 p.1 i)

  close_fine : (es : List Entry) (t : Result Piece Fault) → Fine text (Lies text) t → Fine text Any (close text wires es t)
  close_fine es (Ok (number n bs at)) h = fault_fine text refusal.WrongTotal at (omega arith)
  close_fine es (Ok (word bs at)) h = fault_fine text refusal.WrongTotal at (omega arith)
  close_fine es (Ok (end at)) h = cond_fine text Any (eqb (length es) wires) (Ok es) _ tt (fault_fine text refusal.WrongTotal at h)
  close_fine es (Err f) h = h

body_fine : (text : List ℕ) (h : Header) (at : ℕ) → at ≤ length text → Fine text Any (body_at text h at)
body_fine text h at i =
    then_fine text (Stops text) Any (gates_at text h.wires h.gates (inputs h.inputs) at) _ (gates_fine text h.wires h.gates (inputs h.inputs) at i) (λ p j.
    close_fine text h.wires p.0 (token_at text (line_start text p.1)) (token_fine text (line_start text p.1) (start_fine text p.1 j)))

module _ (text : List ℕ) (wires : ℕ) where
  gate_in_counts : (es : List Entry) (at : ℕ) (p : List Entry × ℕ) → gate_in text wires es at ≡ Ok p → left text false at ≡ 1 + left text false p.1
  gate_in_counts es at p e =
      let a = then_inv (gate_at text at) _ p e in
      let b = after_inv (gate text wires es a.0.0) _ p a.2 in
      gate_counts text at a.0 a.1 ∙ ap (λ q. 1 + left text false q.1) (ok_same _ _ b.2)

  line_in_counts : (es : List Entry) (at : ℕ) (t : Result Piece Fault) (p : List Entry × ℕ) → line_in text wires es at t ≡ Ok p → left text false at ≡ 1 + left text false p.1
  line_in_counts es at (Ok (number n bs _)) p e = gate_in_counts es at p e
  line_in_counts es at (Ok (word bs _)) p e = gate_in_counts es at p e
  line_in_counts es at (Ok (end z)) p e = absurd (err_ok _ _ e)
  line_in_counts es at (Err f) p e = absurd (err_ok _ _ e)

  gates_count : (k : ℕ) (es : List Entry) (at : ℕ) (p : List Entry × ℕ) → gates_at text wires k es at ≡ Ok p → left text false at ≡ k + left text false p.1
  gates_count zero es at p e = let z : left text false at ≡ left text false p.1 = ap (λ q. left text false q.1) (ok_same _ _ e) in omega arith
  gates_count (suc k) es at p e =
      let a = then_inv (next_gate text wires es at) _ p e in
      let one : left text false (line_start text at) ≡ 1 + left text false a.0.1 = line_in_counts es (line_start text at) (token_at text (line_start text at)) a.0 a.1 in
      omega (arith, start_counts text at, one, gates_count k a.0.0 a.0.1 p a.2)

  close_counts : (es out : List Entry) (at : ℕ) (t : Result Piece Fault) → token_at text (line_start text at) ≡ t → close text wires es t ≡ Ok out → left text false at ≡ 0
  close_counts es out at (Ok (number n bs _)) q e = absurd (err_ok _ _ e)
  close_counts es out at (Ok (word bs _)) q e = absurd (err_ok _ _ e)
  close_counts es out at (Ok (end z)) q e = none_counts text at z q
  close_counts es out at (Err f) q e = absurd (err_ok _ _ e)

body_counts : (text : List ℕ) (h : Header) (at : ℕ) (es : List Entry) → body_at text h at ≡ Ok es → left text false at ≡ h.gates
body_counts text h at es e =
    let a = then_inv (gates_at text h.wires h.gates (inputs h.inputs) at) _ es e in
    omega (arith, gates_count text h.wires h.gates (inputs h.inputs) at a.0 a.1, close_counts text h.wires a.0.0 es a.0.1 (token_at text (line_start text a.0.1)) refl a.2)

-- what an outcome promises
abbrev Told : List ℕ → Outcome → Type 0
Told text (untouched f) = Placed text f
Told text (cleared w f) = Placed text f
Told text (filled h es) = Sound h.wires h.inputs h.outputs es × (token_lines text ≡ 3 + h.gates)

module _ (text : List ℕ) (rows names : ℕ) where
  told_body : (h : Header) (r : Result (List Entry) Fault) → Fine text Any r → ((es : List Entry) → r ≡ Ok es → Told text (filled h es)) → Told text (read_body h r)
  told_body h (Ok es) i l = l es refl
  told_body h (Err f) i l = i

  told_cond : (b : Bool) (x y : Outcome) → Told text x → Told text y → Told text (cond b x y)
  told_cond true x y a b = a
  told_cond false x y a b = b

  told_on : (r : Result (Header × ℕ) Fault) → Fine text (HeaderIn text) r → ((p : Header × ℕ) → r ≡ Ok p → Bounds p.0 × (token_lines text ≡ 3 + left text false p.1)) → Told text (read_on text rows names r)
  told_on (Ok p) i b =
      told_cond (leb p.0.wires rows && leb p.0.wires names) (read_body p.0 (body_at text p.0 p.1)) _
      (told_body p.0 (body_at text p.0 p.1) (body_fine text p.0 p.1 i.1) (λ es e. (body_sound text p.0 p.1 es (b p refl).0 e, omega (arith, (b p refl).1, body_counts text p.0 p.1 es e))))
      (fault_fine text refusal.MemoryTooShort p.0.wires_at i.0)
  told_on (Err f) i b = i

  pub told_read : (limit : ℕ) → Told text (read text limit rows names)
  told_read limit =
      told_cond (leb (length text) limit && leb (length text) 67108864) (read_on text rows names (header_at text 0)) _
      (told_on (header_at text 0) (header_fine text 0 (omega arith)) (λ p e. (bounds text 0 p e, header_counts text 0 p e)))
      (fault_fine text refusal.TextTooLong 0 (omega arith))

front_is : {X : Type 0} (xs ys : List X) (n : ℕ) (all : List X) → length xs ≡ n → all ≡ xs ++ ys → take n all ≡ xs
front_is xs ys n all l e = ap (take n) e ∙ take_at xs ys n l

told_answer : (text : List ℕ) (o : Outcome) → Told text o → (table table' : List Entry) (ranks ranks' : List ℕ) → table' ≡ table_after o table → ranks' ≡ ranks_after o ranks → Answered text (circuit_of o) (answer o) table' ranks'
told_answer text (untouched f) l table table' ranks ranks' a b = record { none = refl; placed = l }
told_answer text (cleared w f) l table table' ranks ranks' a b = record { none = refl; placed = l }
told_answer text (filled h es) l table table' ranks ranks' a b =
    let s = l.0 in
    let t : take h.wires table' ≡ es = front_is es _ h.wires table' s.all a in
    let r : take h.wires ranks' ≡ ranks_of es (length es) = front_is (ranks_of es (length es)) _ h.wires ranks' (ranks_length es (length es) ∙ s.all) b in
    let k : Kept es (ranks_of es (length es)) h.inputs h.outputs = sound_kept es h.wires h.inputs h.outputs s in
    let m = Some (tabled es h.inputs h.outputs) in
    let mine : Accepted text m h es (ranks_of es (length es)) = record { lines = l.1; wires = s.all; meant = refl; kept = k; fits = fits_from_kept es (ranks_of es (length es)) h.inputs h.outputs k } in
    subst (λ x. Accepted text m h x (take h.wires ranks')) (sym t) (subst (Accepted text m h es) (sym r) mine)

pub answered : (text : List ℕ) (limit rows names : ℕ) (r : Result Header Fault) (table table' : List Entry) (ranks ranks' : List ℕ) → r ≡ answer (read text limit rows names) → table' ≡ table_after (read text limit rows names) table → ranks' ≡ ranks_after (read text limit rows names) ranks → Answered text (circuit_of (read text limit rows names)) r table' ranks'
answered text limit rows names r table table' ranks ranks' e a b =
    subst (λ x. Answered text (circuit_of (read text limit rows names)) x table' ranks') (sym e) (told_answer text (read text limit rows names) (told_read text rows names limit) table table' ranks ranks' a b)
