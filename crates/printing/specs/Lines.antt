-- The lines that are printed.
use Rattle.std.specs.Prelude.{ℕ, List, [], ◌∷◌, ◌++◌, map, length, codes, decimal}
use Rattle.circuits.specs.Answers.{number_of}
use Rattle.circuits.specs.declared.making.Entry.{Entry}
use Rattle.tokens.specs.declared.fault.Fault.{Fault}
use Rattle.writing.specs.Writes.{name_of}

-- a number on each line
abbrev pub lines_text : List ℕ → List ℕ
lines_text [] = []
lines_text (n ∷ ns) = (decimal n ++ (10 ∷ [])) ++ lines_text ns

-- PLAN, how many wires there are, and the name of each on a line
abbrev pub plan_text : List ℕ → List ℕ
plan_text names = ((codes "PLAN " ++ decimal (length names)) ++ (10 ∷ [])) ++ lines_text names

-- REFUSED, the number of a refusal, its line and its byte
abbrev pub refusal_text : ℕ → ℕ → ℕ → List ℕ
refusal_text n line byte = (codes "REFUSED " ++ decimal n) ++ ((codes " LINE " ++ decimal line) ++ ((codes " BYTE " ++ decimal byte) ++ (10 ∷ [])))

-- the same of a fault
abbrev pub fault_text : Fault → List ℕ
fault_text f = refusal_text (number_of f.refusal) f.line f.byte

-- the names of wires by rank
abbrev pub names_at : List Entry → List ℕ → List ℕ
names_at es ranks = map (name_of es) ranks
