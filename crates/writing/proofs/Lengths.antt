-- How long the written text is at most.
use Rattle.std.proofs.Common.{◌≡◌, ℕ, suc, ◌+◌, ◌-◌, ◌*◌, ◌^◌, ◌<◌, ◌≤◌, Bool, true, false, cond, eqb, List, [], ◌∷◌, ◌++◌, length, drop, codes, decimal, sym, ap, subst, ⊎_elim, arith, length-append}
use Rattle.std.proofs.lemmas.Fmt.{decimal_digit, length-decimal-le}
use Rattle.std.proofs.lemmas.List.{length-drop, get_or-drop}
use Rattle.std.proofs.lemmas.Bool.{cond-true, cond-false, cases_Bool}
use Rattle.circuits.specs.declared.making.Entry.{Entry}
use Rattle.circuits.specs.declared.making.Making.{Making}
use Rattle.circuits.specs.declared.making.Making.TheVariants.{Input, Constant, Copy, Inversion, Sum, Product}
use Rattle.reading.specs.Texts.{blank_entry, entry_at}
use Rattle.writing.specs.Writes.{gate_text, name_of, making_text, wires_text, width_text, circuit_text}

one_digit : (n : ℕ) → n < 10 → length (decimal n) ≡ 1
one_digit n lt = ap length (decimal_digit n lt)

pub digits_le : (n : ℕ) → n < 2 ^ 32 → length (decimal n) ≤ 10
digits_le n f = length-decimal-le 10 n (omega arith) (omega arith) (omega arith)

gate_one : (a n : ℕ) (w : List ℕ) → a < 2 ^ 32 → n < 2 ^ 32 → length w ≤ 4 → length (gate_text (a ∷ []) n w) ≤ 44
gate_one a n w fa fn lw =
    let one : length (decimal 1) ≡ 1 = one_digit 1 (omega arith) in
    let count : length (decimal (length (a ∷ []))) ≡ 1 = one_digit 1 (omega arith) in
    simp length-append (omega (arith, count, one, digits_le a fa, digits_le n fn))

gate_two : (a b n : ℕ) (w : List ℕ) → a < 2 ^ 32 → b < 2 ^ 32 → n < 2 ^ 32 → length w ≤ 4 → length (gate_text (a ∷ b ∷ []) n w) ≤ 44
gate_two a b n w fa fb fn lw =
    let one : length (decimal 1) ≡ 1 = one_digit 1 (omega arith) in
    let count : length (decimal (length (a ∷ b ∷ []))) ≡ 1 = one_digit 2 (omega arith) in
    simp length-append (omega (arith, count, one, digits_le a fa, digits_le b fb, digits_le n fn))

module _ (es : List Entry) (names : (j : ℕ) → (entry_at es j).name < 2 ^ 32) where
  bit : (b : Bool) → cond b 1 0 < 2 ^ 32
  bit true = omega arith
  bit false = omega arith

  wire_len : (w : Making) (n : ℕ) → n < 2 ^ 32 → length (making_text es w n) ≤ 44
  wire_len Input n fn = omega arith
  wire_len (Constant b) n fn = gate_one (cond b 1 0) n (codes "EQ") (bit b) fn (omega arith)
  wire_len (Copy a) n fn = gate_one (name_of es a) n (codes "EQW") (names a) fn (omega arith)
  wire_len (Inversion a) n fn = gate_one (name_of es a) n (codes "INV") (names a) fn (omega arith)
  wire_len (Sum a b) n fn = gate_two (name_of es a) (name_of es b) n (codes "XOR") (names a) (names b) fn (omega arith)
  wire_len (Product a b) n fn = gate_two (name_of es a) (name_of es b) n (codes "AND") (names a) (names b) fn (omega arith)

  wires_len : (rest : List Entry) → ((j : ℕ) → (entry_at rest j).name < 2 ^ 32) → length (wires_text es rest) ≤ 44 * length rest
  wires_len [] f = omega arith
  wires_len (e ∷ rest) f = omega (arith, length-append (making_text es e.making e.name) (wires_text es rest), wire_len e.making e.name (f 0), wires_len rest (λ j. f (suc j)))

width_len : (n : ℕ) → n < 2 ^ 32 → length (width_text n) ≤ 13
width_len n f =
    let one : length (decimal 1) ≡ 1 = one_digit 1 (omega arith) in
    let zero' : length (decimal 0) ≡ 1 = one_digit 0 (omega arith) in
    ⊎_elim
    (λ y. omega (arith, ap length (cond-true (eqb n 0) (decimal 0 ++ (10 ∷ [])) (decimal 1 ++ (32 ∷ (decimal n ++ (10 ∷ [])))) y), zero', length-append (decimal 0) (10 ∷ [])))
    (λ z. omega (arith, ap length (cond-false (eqb n 0) (decimal 0 ++ (10 ∷ [])) (decimal 1 ++ (32 ∷ (decimal n ++ (10 ∷ [])))) z), one, digits_le n f, length-append (decimal 1) (32 ∷ (decimal n ++ (10 ∷ []))), length-append (decimal n) (10 ∷ [])))
    (cases_Bool (eqb n 0))

pub written_len : (i o : ℕ) (es : List Entry) → ((j : ℕ) → (entry_at es j).name < 2 ^ 32) → i ≤ length es → length es ≤ 1048576 → o < 2 ^ 32 → length (circuit_text i o es) ≤ 67108864
written_len i o es names few most small =
    let rest : length (wires_text es (drop i es)) ≤ 44 * length (drop i es) = wires_len es names (drop i es) (λ j. subst (λ x. x.name < 2 ^ 32) (sym (get_or-drop i es j blank_entry)) (names (i + j))) in
    simp length-append (omega (arith, rest, length-drop i es, digits_le (length es - i) (omega arith), digits_le (length es) (omega arith), width_len i (omega arith), width_len o small))
