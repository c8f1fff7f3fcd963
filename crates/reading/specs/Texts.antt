-- What a text means.
use Rattle.std.specs.Prelude.{ℕ, zero, suc, ◌+◌, ◌*◌, Bool, false, cond, not, ◌&&◌, List, [], ◌∷◌, ◌++◌, length, get_or, drop, replicate, Some, None, Ok, Err, Option, Result, ◌==◌, nat_le, nat_lt, slice_index_or}
use Rattle.circuits.specs.Circuits.{Meaning}
use Rattle.circuits.specs.Tables.{tabled}
use Rattle.circuits.specs.declared.making.Entry.{Entry}
use Rattle.circuits.specs.declared.making.Making.{Making}
use Rattle.circuits.specs.declared.making.Making.TheVariants as making
use Rattle.circuits.specs.declared.answer.Refusal.TheVariants as refusal
use Rattle.tokens.specs.declared.fault.Fault.{Fault}
use Rattle.tokens.specs.declared.gate.Count.{Count}
use Rattle.tokens.specs.declared.gate.Count.TheVariants.{Exactly, Times}
use Rattle.tokens.specs.declared.gate.Gate.{Gate}
use Rattle.tokens.specs.declared.gate.Gate.TheVariants.{Product, Sum, Inversion, Constant, Copy}
use Rattle.tokens.specs.declared.gate.Rule.{Rule}
use Rattle.tokens.specs.declared.header.Header.{Header}
use Rattle.tokens.specs.declared.token.Numeral.{Numeral}
use Rattle.tokens.specs.Faults.{fault_at}
use Rattle.tokens.specs.Tokens.{Piece, number, word, end, token_at}
use Rattle.tokens.specs.Lines.{Parsed, then, gate_at}
use Rattle.tokens.specs.Headers.{line_start, header_at}

-- the rank of a name among the wires made so far, their number where it is not made
abbrev pub rank : List Entry → ℕ → ℕ
rank [] n = 0
rank (e ∷ es) n = cond (e.name == n) 0 (suc (rank es n))

-- a wire with this name is made
abbrev pub made : List Entry → ℕ → Bool
made es n = nat_lt (rank es n) (length es)

-- a count that is fixed, or a multiple of the number of results
abbrev pub fits : Count → ℕ → ℕ → Bool
fits (Exactly k) n c = c == k
fits (Times k) n c = c == k * n

-- counts that suit the word; others are refused by 6
abbrev pub suits : Rule → ℕ → ℕ → Bool
suits r ins outs = nat_le 1 outs && (fits r.inputs outs ins && fits r.results outs outs)

-- an input that is made, or of a constant its value; another is refused by 7
abbrev pub input_ok : Gate → List Entry → ℕ → Bool
input_ok Constant es n = nat_le n 1
input_ok Product es n = made es n
input_ok Sum es n = made es n
input_ok Inversion es n = made es n
input_ok Copy es n = made es n

-- the first input that is refused
abbrev pub inputs_ok : List ℕ → Gate → List Entry → List Numeral → Result (Unit {0}) Fault
inputs_ok text m es [] = Ok tt
inputs_ok text m es (i ∷ is) = cond (input_ok m es i.value) (inputs_ok text m es is) (Err (fault_at text refusal.BadInput i.at))

-- how a gate makes a wire of operands with these names
abbrev pub making_of : Gate → List Entry → ℕ → ℕ → Making
making_of Product es a b = making.Product (rank es a) (rank es b)
making_of Sum es a b = making.Sum (rank es a) (rank es b)
making_of Inversion es a b = making.Inversion (rank es a)
making_of Constant es a b = making.Constant (a == 1)
making_of Copy es a b = making.Copy (rank es a)

-- the number at a place of a row
abbrev pub value_at : List Numeral → ℕ → ℕ
value_at is j = (get_or is j (record { value = 0; at = 0 })).value

-- the results are made one by one, and one past the wires or made already is refused by 8; of n results the one at j is made of
-- the inputs j and n + j
abbrev pub make : List ℕ → ℕ → Gate → List Entry → List Numeral → ℕ → ℕ → List Numeral → List Entry → Result (List Entry) Fault
make text wires m before ins n j [] es = Ok es
make text wires m before ins n j (r ∷ rs) es =
    cond (nat_lt r.value wires && not (made es r.value))
    (make text wires m before ins n (suc j) rs (es ++ record { making = making_of m before (value_at ins j) (value_at ins (n + j)); name = r.value } ∷ []))
    (Err (fault_at text refusal.BadResult r.at))

-- one test after another: the first fault is the fault of both
abbrev pub after : {A B : Type 0} → Result A Fault → (A → Result B Fault) → Result B Fault
after (Ok a) next = next a
after (Err f) next = Err f

-- the wires after a gate line whose counts suit its word
abbrev pub line_makes : List ℕ → ℕ → List Entry → Parsed → Result (List Entry) Fault
line_makes text wires es g =
    after (inputs_ok text g.rule.making es g.inputs) (λ _. make text wires g.rule.making es g.inputs (length g.results) 0 g.results es)

-- the wires after a gate line that was read whole
abbrev pub gate : List ℕ → ℕ → List Entry → Parsed → Result (List Entry) Fault
gate text wires es g =
    cond (suits g.rule (length g.inputs) (length g.results)) (line_makes text wires es g) (Err (fault_at text refusal.CountsDoNotSuit g.first))

-- a gate line, and the wires after it
abbrev pub gate_in : List ℕ → ℕ → List Entry → ℕ → Result (List Entry × ℕ) Fault
gate_in text wires es at = then (gate_at text at) (λ g on. after (gate text wires es g) (λ es'. Ok (es', on)))

-- a further line begins at an offset: none is left, or a gate line
abbrev pub line_in : List ℕ → ℕ → List Entry → ℕ → Result Piece Fault → Result (List Entry × ℕ) Fault
line_in text wires es at (Ok (number n bs _)) = gate_in text wires es at
line_in text wires es at (Ok (word bs _)) = gate_in text wires es at
line_in text wires es at (Ok (end e)) = Err (fault_at text refusal.WrongTotal e)
line_in text wires es at (Err f) = Err f

-- the next line is a gate line
abbrev pub next_gate : List ℕ → ℕ → List Entry → ℕ → Result (List Entry × ℕ) Fault
next_gate text wires es at = line_in text wires es (line_start text at) (token_at text (line_start text at))

-- so many gate lines
abbrev pub gates_at : List ℕ → ℕ → ℕ → List Entry → ℕ → Result (List Entry × ℕ) Fault
gates_at text wires zero es at = Ok (es, at)
gates_at text wires (suc k) es at = then (next_gate text wires es at) (λ es' on. gates_at text wires k es' on)

-- no line is left, and every wire is made
abbrev pub close : List ℕ → ℕ → List Entry → Result Piece Fault → Result (List Entry) Fault
close text wires es (Ok (number n bs at)) = Err (fault_at text refusal.WrongTotal at)
close text wires es (Ok (word bs at)) = Err (fault_at text refusal.WrongTotal at)
close text wires es (Ok (end at)) = cond (length es == wires) (Ok es) (Err (fault_at text refusal.WrongTotal at))
close text wires es (Err f) = Err f

-- the circuit's own inputs
abbrev pub inputs : ℕ → List Entry
inputs zero = []
inputs (suc k) = inputs k ++ record { making = making.Input; name = k } ∷ []

-- what follows the first three lines
abbrev pub body_at : List ℕ → Header → ℕ → Result (List Entry) Fault
body_at text h at = then (gates_at text h.wires h.gates (inputs h.inputs) at) (λ es on. close text h.wires es (token_at text (line_start text on)))

-- what reading answers and what it leaves in memory
pub data Outcome : Type 0 where
  untouched : Fault → Outcome
  cleared : ℕ → Fault → Outcome
  filled : Header → List Entry → Outcome

-- a fault after the first three lines clears the memory that the circuit would take
abbrev pub read_body : Header → Result (List Entry) Fault → Outcome
read_body h (Ok es) = filled h es
read_body h (Err f) = cleared h.wires f

-- a fault in the first three lines, or for want of memory, touches none
abbrev pub read_on : List ℕ → ℕ → ℕ → Result (Header × ℕ) Fault → Outcome
read_on text rows names (Ok p) = cond (nat_le p.0.wires rows && nat_le p.0.wires names) (read_body p.0 (body_at text p.0 p.1)) (untouched (fault_at text refusal.MemoryTooShort p.0.wires_at))
read_on text rows names (Err f) = untouched f

-- a text, the limit of its length, and memory for so many entries and so many ranks
abbrev pub read : List ℕ → ℕ → ℕ → ℕ → Outcome
read text limit rows names =
    cond (nat_le (length text) limit && nat_le (length text) 67108864) (read_on text rows names (header_at text 0)) (untouched (fault_at text refusal.TextTooLong 0))

-- a text read into these two memories
abbrev pub outcome : List ℕ → ℕ → List Entry → List ℕ → Outcome
outcome text limit table ranks = read text limit (length table) (length ranks)

-- what is answered
abbrev pub answer : Outcome → Result Header Fault
answer (untouched f) = Err f
answer (cleared w f) = Err f
answer (filled h es) = Ok h

-- the circuit that is read
abbrev pub circuit_of : Outcome → Option Meaning
circuit_of (untouched f) = None
circuit_of (cleared w f) = None
circuit_of (filled h es) = Some (tabled es h.inputs h.outputs)

-- a cleared entry
abbrev pub blank_entry : Entry
blank_entry = record { making = making.Constant false; name = 0 }

-- the entry at a rank
abbrev pub entry_at : List Entry → ℕ → Entry
entry_at es k = slice_index_or es k blank_entry

-- the entries after a reading
abbrev pub table_after : Outcome → List Entry → List Entry
table_after (untouched f) old = old
table_after (cleared w f) old = replicate w blank_entry ++ drop w old
table_after (filled h es) old = es ++ drop (length es) old

-- the ranks of the first k names
abbrev pub ranks_of : List Entry → ℕ → List ℕ
ranks_of es zero = []
ranks_of es (suc k) = ranks_of es k ++ rank es k ∷ []

-- the numbers after a reading
abbrev pub ranks_after : Outcome → List ℕ → List ℕ
ranks_after (untouched f) old = old
ranks_after (cleared w f) old = replicate w 0 ++ drop w old
ranks_after (filled h es) old = ranks_of es (length es) ++ drop (length es) old
