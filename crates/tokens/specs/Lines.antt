-- What a line has to have.
use Rattle.std.specs.Prelude.{ℕ, zero, suc, ◌+◌, List, [], ◌∷◌, length, Some, None, Ok, Err, Option, Result}
use Rattle.circuits.specs.declared.answer.Refusal.TheVariants as refusal
use Rattle.tokens.specs.declared.fault.Fault.{Fault}
use Rattle.tokens.specs.declared.gate.Rule.{Rule}
use Rattle.tokens.specs.declared.line.GateLine.{GateLine}
use Rattle.tokens.specs.declared.token.Numeral.{Numeral}
use Rattle.tokens.specs.Faults.{fault_at}
use Rattle.tokens.specs.Gates.{rule_of}
use Rattle.tokens.specs.Tokens.{Piece, number, word, end, token_at}

-- what was read, and where the reader stands then
abbrev pub landed : {A : Type 0} → Result A Fault → ℕ → Result (A × ℕ) Fault
landed (Ok a) at = Ok (a, at)
landed (Err f) at = Err f

-- one reading after another: the first fault is the fault of both
abbrev pub then : {A B : Type 0} → Result (A × ℕ) Fault → (A → ℕ → Result B Fault) → Result B Fault
then (Ok p) next = next p.0 p.1
then (Err f) next = Err f

-- a number, of the token that is read
abbrev pub number_in : List ℕ → Result Piece Fault → Result (Numeral × ℕ) Fault
number_in text (Ok (number n bs at)) = Ok (record { value = n; at = at }, at + length bs)
number_in text (Ok (word bs at)) = Err (fault_at text refusal.NotANumber at)
number_in text (Ok (end at)) = Err (fault_at text refusal.NotANumber at)
number_in text (Err f) = Err f

-- a number is due
abbrev pub number_at : List ℕ → ℕ → Result (Numeral × ℕ) Fault
number_at text at = number_in text (token_at text at)

-- k numbers are due
abbrev pub numbers_at : List ℕ → ℕ → ℕ → Result (List Numeral × ℕ) Fault
numbers_at text zero at = Ok ([], at)
numbers_at text (suc k) at = then (number_at text at) (λ n on. then (numbers_at text k on) (λ ns last. Ok (n ∷ ns, last)))

-- the same, for their faults and their end alone
abbrev pub pass_at : List ℕ → ℕ → ℕ → Result (Unit {0} × ℕ) Fault
pass_at text k at = then (numbers_at text k at) (λ _ last. Ok (tt, last))

-- a known word, or a fault
abbrev pub known : List ℕ → ℕ → Option Rule → ℕ → Result (Rule × ℕ) Fault
known text at (Some r) on = Ok (r, on)
known text at None on = Err (fault_at text refusal.UnknownWord at)

-- the rule of a gate word, of the token that is read
abbrev pub rule_in : List ℕ → Result Piece Fault → Result (Rule × ℕ) Fault
rule_in text (Ok (number n bs at)) = Err (fault_at text refusal.UnknownWord at)
rule_in text (Ok (word bs at)) = known text at (rule_of bs) (at + length bs)
rule_in text (Ok (end at)) = Err (fault_at text refusal.UnknownWord at)
rule_in text (Err f) = Err f

-- a gate word is due
abbrev pub rule_at : List ℕ → ℕ → Result (Rule × ℕ) Fault
rule_at text at = rule_in text (token_at text at)

-- the end of a line, of the token that is read
abbrev pub end_in : List ℕ → Result Piece Fault → Result (Unit {0} × ℕ) Fault
end_in text (Ok (number n bs at)) = Err (fault_at text refusal.TokensLeftOver at)
end_in text (Ok (word bs at)) = Err (fault_at text refusal.TokensLeftOver at)
end_in text (Ok (end at)) = Ok (tt, at)
end_in text (Err f) = Err f

-- the line's end is due
abbrev pub end_at : List ℕ → ℕ → Result (Unit {0} × ℕ) Fault
end_at text at = end_in text (token_at text at)

-- a gate line: the byte of its first token, its inputs, its results and its word's rule
pub record Parsed : Type 0 where
  pub first : ℕ
  pub inputs : List Numeral
  pub results : List Numeral
  pub rule : Rule

-- a gate line is due
abbrev pub gate_at : List ℕ → ℕ → Result (Parsed × ℕ) Fault
gate_at text at =
    then (number_at text at) (λ n a. then (number_at text a) (λ m b.
    then (numbers_at text n.value b) (λ ins c. then (numbers_at text m.value c) (λ outs d.
    then (rule_at text d) (λ r e. then (end_at text e) (λ _ last.
    Ok (record { first = n.at; inputs = ins; results = outs; rule = r }, last)))))))

-- the numbers of the text at an offset, and where they end
abbrev pub listed : Result (List Numeral × ℕ) Fault → List Numeral × ℕ
listed (Ok p) = p
listed (Err f) = ([], 0)

-- the gate that a line of the text stands for
abbrev pub gate_of : List ℕ → GateLine → Parsed
gate_of text g =
    let ins = listed (numbers_at text g.inputs g.wires) in
    record { first = g.first; inputs = ins.0; results = (listed (numbers_at text g.results ins.1)).0; rule = g.rule }

-- the line that a reader of gate lines finds: its counts, its rule, and where its wires stand
abbrev pub line_at : List ℕ → ℕ → Result (GateLine × ℕ) Fault
line_at text at =
    then (number_at text at) (λ n a. then (number_at text a) (λ m b.
    then (pass_at text n.value b) (λ _ c. then (pass_at text m.value c) (λ _ d.
    then (rule_at text d) (λ r e. then (end_at text e) (λ _ last.
    Ok (record { first = n.at; inputs = n.value; results = m.value; wires = b; rule = r }, last)))))))
