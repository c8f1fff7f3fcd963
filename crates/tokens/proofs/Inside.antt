-- What is read, and what is refused, lies in the text.
use Rattle.std.proofs.Common.{ℕ, zero, suc, ◌+◌, ◌≤◌, Bool, true, false, cond, ◌&&◌, eqb, leb, List, [], ◌∷◌, length, drop, Some, None, Ok, Err, Option, Result, refl, arith, length-drop}
use Rattle.std.specs.List.{prefix_len}
use Rattle.std.proofs.lemmas.List.{length-take-le}
use Rattle.std.proofs.lemmas.List.Sums.{prefix_len-le-length}
use Rattle.circuits.specs.declared.answer.Refusal.{Refusal}
use Rattle.circuits.specs.declared.answer.Refusal.TheVariants as refusal
use Rattle.tokens.specs.declared.fault.Fault.{Fault}
use Rattle.tokens.specs.declared.gate.Rule.{Rule}
use Rattle.tokens.specs.declared.header.Header.{Header}
use Rattle.tokens.specs.declared.token.Numeral.{Numeral}
use Rattle.tokens.specs.Places.{visible, blank}
use Rattle.tokens.specs.Numbers.{value_of}
use Rattle.tokens.specs.Faults.{fault_at, Placed}
use Rattle.tokens.specs.Gates.{rule_of}
use Rattle.tokens.specs.Tokens.{Piece, number, word, end, sorted, front, no_token, next_token, token_at}
use Rattle.tokens.specs.Lines.{Parsed, then, number_in, number_at, numbers_at, known, rule_in, rule_at, end_in, end_at, gate_at}
use Rattle.tokens.specs.Headers.{gap, line_start, widths_at, sum_at, header_at}

-- a reading is fine if its fault lies in the text and its answer is as told
abbrev pub Fine : List ℕ → {A : Type 0} → (A → Type 0) → Result A Fault → Type 0
Fine text P (Ok a) = P a
Fine text P (Err f) = Placed text f

module _ (text : List ℕ) where
  pub fault_fine : (e : Refusal) (byte : ℕ) → byte ≤ length text → Placed text (fault_at text e byte)
  fault_fine e byte h = record { inside = h; whole = refl }

  pub cond_fine : {A : Type 0} (P : A → Type 0) (b : Bool) (x y : Result A Fault) → Fine text P x → Fine text P y → Fine text P (cond b x y)
  cond_fine P true x y p q = p
  cond_fine P false x y p q = q

  pub then_fine : {A B : Type 0} (P : A × ℕ → Type 0) (Q : B → Type 0) (r : Result (A × ℕ) Fault) (next : A → ℕ → Result B Fault) → Fine text P r → ((p : A × ℕ) → P p → Fine text Q (next p.0 p.1)) → Fine text Q (then r next)
  then_fine P Q (Ok p) next h k = k p h
  then_fine P Q (Err f) next h k = h

  -- where a reader stands then
  abbrev pub Stops : {A : Type 0} → A × ℕ → Type 0
  Stops p = p.1 ≤ length text

  abbrev pub Lies : Piece → Type 0
  Lies (number n bs at) = at + length bs ≤ length text
  Lies (word bs at) = at + length bs ≤ length text
  Lies (end at) = at ≤ length text

  abbrev pub NumberIn : Numeral × ℕ → Type 0
  NumberIn p = (p.0.at ≤ length text) × (p.1 ≤ length text)

  abbrev pub AllIn : List Numeral → Type 0
  AllIn [] = Unit {0}
  AllIn (n ∷ ns) = (n.at ≤ length text) × AllIn ns

  abbrev pub NumbersIn : List Numeral × ℕ → Type 0
  NumbersIn p = AllIn p.0 × (p.1 ≤ length text)

  abbrev pub GateIn : Parsed × ℕ → Type 0
  GateIn p = (p.0.first ≤ length text) × (AllIn p.0.inputs × (AllIn p.0.results × (p.1 ≤ length text)))

  abbrev pub HeaderIn : Header × ℕ → Type 0
  HeaderIn p = (p.0.wires_at ≤ length text) × (p.1 ≤ length text)

  sorted_lies : (o : Option ℕ) (bs : List ℕ) (at : ℕ) → at + length bs ≤ length text → Lies (sorted o bs at)
  sorted_lies (Some n) bs at h = h
  sorted_lies None bs at h = h

  front_short : (bs : List ℕ) → length (front bs) ≤ length bs
  front_short bs = omega (arith, length-take-le (prefix_len visible bs) bs (prefix_len-le-length visible bs), prefix_len-le-length visible bs)

  next_fine : (at : ℕ) (rest : List ℕ) → at + length rest ≤ length text → Fine text Lies (next_token text at rest)
  next_fine at [] h = omega arith
  next_fine at (b ∷ bs) h =
      cond_fine Lies (blank b) (next_token text (at + 1) bs) _ (next_fine (at + 1) bs (omega arith))
      (cond_fine Lies (visible b) (Ok (sorted (value_of (front (b ∷ bs))) (front (b ∷ bs)) at)) (no_token text at (b ∷ bs)) (sorted_lies (value_of (front (b ∷ bs))) (front (b ∷ bs)) at (omega (arith, front_short (b ∷ bs))))
      (cond_fine Lies (eqb b 10) (Ok (end at)) (Err (fault_at text refusal.ByteNotAllowed at)) (let i : at ≤ length text = omega arith in i) (fault_fine refusal.ByteNotAllowed at (omega arith))))

  pub token_fine : (at : ℕ) → at ≤ length text → Fine text Lies (token_at text at)
  token_fine at h = next_fine at (drop at text) (omega (arith, length-drop at text))

  number_in_fine : (t : Result Piece Fault) → Fine text Lies t → Fine text NumberIn (number_in text t)
  number_in_fine (Ok (number n bs at)) h = (omega arith, h)
  number_in_fine (Ok (word bs at)) h = fault_fine refusal.NotANumber at (omega arith)
  number_in_fine (Ok (end at)) h = fault_fine refusal.NotANumber at h
  number_in_fine (Err f) h = h

  pub number_fine : (at : ℕ) → at ≤ length text → Fine text NumberIn (number_at text at)
  number_fine at h = number_in_fine (token_at text at) (token_fine at h)

  pub numbers_fine : (k at : ℕ) → at ≤ length text → Fine text NumbersIn (numbers_at text k at)
  numbers_fine zero at h = (tt, h)
  numbers_fine (suc k) at h =
      then_fine NumberIn NumbersIn (number_at text at) _ (number_fine at h) (λ p i.
      then_fine NumbersIn NumbersIn (numbers_at text k p.1) (λ ns last. Ok (p.0 ∷ ns, last)) (numbers_fine k p.1 i.1) (λ q j. ((i.0, j.0), j.1)))

  known_fine : (at on : ℕ) (o : Option Rule) → at ≤ length text → on ≤ length text → Fine text Stops (known text at o on)
  known_fine at on (Some r) h i = i
  known_fine at on None h i = fault_fine refusal.UnknownWord at h

  rule_in_fine : (t : Result Piece Fault) → Fine text Lies t → Fine text Stops (rule_in text t)
  rule_in_fine (Ok (number n bs at)) h = fault_fine refusal.UnknownWord at (omega arith)
  rule_in_fine (Ok (word bs at)) h = known_fine at (at + length bs) (rule_of bs) (omega arith) h
  rule_in_fine (Ok (end at)) h = fault_fine refusal.UnknownWord at h
  rule_in_fine (Err f) h = h

  rule_fine : (at : ℕ) → at ≤ length text → Fine text Stops (rule_at text at)
  rule_fine at h = rule_in_fine (token_at text at) (token_fine at h)

  end_in_fine : (t : Result Piece Fault) → Fine text Lies t → Fine text Stops (end_in text t)
  end_in_fine (Ok (number n bs at)) h = fault_fine refusal.TokensLeftOver at (omega arith)
  end_in_fine (Ok (word bs at)) h = fault_fine refusal.TokensLeftOver at (omega arith)
  end_in_fine (Ok (end at)) h = h
  end_in_fine (Err f) h = h

  end_fine : (at : ℕ) → at ≤ length text → Fine text Stops (end_at text at)
  end_fine at h = end_in_fine (token_at text at) (token_fine at h)

  pub gate_fine : (at : ℕ) → at ≤ length text → Fine text GateIn (gate_at text at)
  gate_fine at h =
      then_fine NumberIn GateIn (number_at text at) _ (number_fine at h) (λ n a.
      then_fine NumberIn GateIn (number_at text n.1) _ (number_fine n.1 a.1) (λ m b.
      then_fine NumbersIn GateIn (numbers_at text n.0.value m.1) _ (numbers_fine n.0.value m.1 b.1) (λ ins c.
      then_fine NumbersIn GateIn (numbers_at text m.0.value ins.1) _ (numbers_fine m.0.value ins.1 c.1) (λ outs d.
      then_fine Stops GateIn (rule_at text outs.1) _ (rule_fine outs.1 d.1) (λ r e.
      then_fine Stops GateIn (end_at text r.1) _ (end_fine r.1 e) (λ z i. (a.0, (c.0, (d.0, i)))))))))

  pub start_fine : (at : ℕ) → at ≤ length text → line_start text at ≤ length text
  start_fine at h = omega (arith, prefix_len-le-length gap (drop at text), length-drop at text)

  widths_fine : (wires k sum at : ℕ) → at ≤ length text → Fine text Stops (widths_at text wires k sum at)
  widths_fine wires zero sum at h = h
  widths_fine wires (suc k) sum at h =
      then_fine NumberIn Stops (number_at text at) _ (number_fine at h) (λ w i.
      cond_fine Stops (leb 1 w.0.value && leb (sum + w.0.value) wires) _ _ (widths_fine wires k (sum + w.0.value) w.1 i.1) (fault_fine refusal.BadWidth w.0.at i.0))

  sum_fine : (wires at : ℕ) → at ≤ length text → Fine text Stops (sum_at text wires at)
  sum_fine wires at h =
      then_fine NumberIn Stops (number_at text (line_start text at)) _ (number_fine (line_start text at) (start_fine at h)) (λ k i.
      cond_fine Stops (leb k.0.value 64) _ _
      (then_fine Stops Stops (widths_at text wires k.0.value 0 k.1) _ (widths_fine wires k.0.value 0 k.1 i.1) (λ s j.
      then_fine Stops Stops (end_at text s.1) _ (end_fine s.1 j) (λ z l. l)))
      (fault_fine refusal.CountOutOfBounds k.0.at i.0))

  pub header_fine : (at : ℕ) → at ≤ length text → Fine text HeaderIn (header_at text at)
  header_fine at h =
      then_fine NumberIn HeaderIn (number_at text (line_start text at)) _ (number_fine (line_start text at) (start_fine at h)) (λ g a.
      then_fine NumberIn HeaderIn (number_at text g.1) _ (number_fine g.1 a.1) (λ w b.
      cond_fine HeaderIn (leb 1 w.0.value && leb w.0.value 1048576) _ _
      (then_fine Stops HeaderIn (end_at text w.1) _ (end_fine w.1 b.1) (λ z c.
      then_fine Stops HeaderIn (sum_at text w.0.value z.1) _ (sum_fine w.0.value z.1 c) (λ i d.
      then_fine Stops HeaderIn (sum_at text w.0.value i.1) _ (sum_fine w.0.value i.1 d) (λ o e. (b.0, e)))))
      (fault_fine refusal.CountOutOfBounds w.0.at b.0)))
