-- The text that is written of a circuit.
use Rattle.std.specs.Prelude.{◌≡◌, ℕ, ◌-◌, ◌≤◌, cond, List, [], ◌∷◌, ◌++◌, length, drop, Some, Ok, Err, codes, decimal, Result, ◌==◌, nat_le}
use Rattle.circuits.specs.Circuits.{Meaning, width}
use Rattle.circuits.specs.declared.answer.Refusal.{Refusal}
use Rattle.circuits.specs.declared.answer.Refusal.TheVariants.{MemoryTooShort}
use Rattle.circuits.specs.declared.making.Entry.{Entry}
use Rattle.circuits.specs.declared.making.Making.{Making}
use Rattle.circuits.specs.declared.making.Making.TheVariants.{Input, Constant, Copy, Inversion, Sum, Product}
use Rattle.reading.specs.Texts.{entry_at, read, circuit_of}

-- numbers, each after a space
abbrev pub spaced : List ℕ → List ℕ
spaced [] = []
spaced (n ∷ ns) = 32 ∷ (decimal n ++ spaced ns)

-- a line of one or two inputs and one result
abbrev pub gate_text : List ℕ → ℕ → List ℕ → List ℕ
gate_text ins out word = decimal (length ins) ++ (32 ∷ (decimal 1 ++ (spaced ins ++ (32 ∷ (decimal out ++ (32 ∷ (word ++ (10 ∷ []))))))))

-- the name of a rank
abbrev pub name_of : List Entry → ℕ → ℕ
name_of es rank = (entry_at es rank).name

-- the line of a wire that is made so and has this name; an input has none
abbrev pub making_text : List Entry → Making → ℕ → List ℕ
making_text es Input name = []
making_text es (Constant b) name = gate_text (cond b 1 0 ∷ []) name (codes "EQ")
making_text es (Copy a) name = gate_text (name_of es a ∷ []) name (codes "EQW")
making_text es (Inversion a) name = gate_text (name_of es a ∷ []) name (codes "INV")
making_text es (Sum a b) name = gate_text (name_of es a ∷ name_of es b ∷ []) name (codes "XOR")
making_text es (Product a b) name = gate_text (name_of es a ∷ name_of es b ∷ []) name (codes "AND")

-- a line for each wire
abbrev pub wires_text : List Entry → List Entry → List ℕ
wires_text es [] = []
wires_text es (e ∷ rest) = making_text es e.making e.name ++ wires_text es rest

-- one value of this width, or none
abbrev pub width_text : ℕ → List ℕ
width_text n = cond (n == 0) (decimal 0 ++ (10 ∷ [])) (decimal 1 ++ (32 ∷ (decimal n ++ (10 ∷ []))))

-- the first three lines and an empty one
abbrev pub head_text : ℕ → ℕ → ℕ → List ℕ
head_text wires inputs outputs = decimal (wires - inputs) ++ (32 ∷ (decimal wires ++ (10 ∷ (width_text inputs ++ (width_text outputs ++ (10 ∷ []))))))

-- the text of the circuit in a table
abbrev pub circuit_text : ℕ → ℕ → List Entry → List ℕ
circuit_text inputs outputs es = head_text (length es) inputs outputs ++ wires_text es (drop inputs es)

-- makings with their names
abbrev pub entries_of : List Making → List ℕ → List Entry
entries_of [] ns = []
entries_of (m ∷ ms) [] = []
entries_of (m ∷ ms) (n ∷ ns) = record { making = m; name = n } ∷ entries_of ms ns

-- the table of a circuit
abbrev pub table_of : Meaning → List Entry
table_of m = entries_of m.makings m.names

-- the text of a circuit
abbrev pub written : Meaning → List ℕ
written m = circuit_text m.inputs m.outputs (table_of m)

-- the text's length, or a refusal where the room is less
abbrev pub answered : List ℕ → ℕ → Result ℕ Refusal
answered text room = cond (nat_le (length text) room) (Ok (length text)) (Err MemoryTooShort)

-- the text and then what the room had, or the room as it was
abbrev pub left : List ℕ → List ℕ → List ℕ
left text room = cond (nat_le (length text) (length room)) (text ++ drop (length text) room) room

-- the text of a circuit is read as that circuit, within any limit that it keeps and wherever there is memory for it
pub record ReadsBack (m : Meaning) : Type 0 where
  pub short : length (written m) ≤ 67108864
  pub same : (limit entries ranks : ℕ) → length (written m) ≤ limit → width m ≤ entries → width m ≤ ranks → circuit_of (read (written m) limit entries ranks) ≡ Some m
