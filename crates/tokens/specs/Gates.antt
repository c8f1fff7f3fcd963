-- The gate words of the format.
use Rattle.std.specs.Prelude.{ℕ, cond, List, [], ◌∷◌, Some, None, codes, Option}
use Rattle.std.specs.Str.{bytes_eq}
use Rattle.tokens.specs.declared.gate.Row.{Row}
use Rattle.tokens.specs.declared.gate.Rule.{Rule}
use Rattle.tokens.specs.declared.gate.Count.TheVariants.{Exactly, Times}
use Rattle.tokens.specs.declared.gate.Gate.TheVariants.{Product, Sum, Inversion, Constant, Copy}

-- a word with its rule
pub record Entry : Type 0 where
  pub word : List ℕ
  pub rule : Rule

-- a row of the code, by the bytes of its word
abbrev pub entry : Row → Entry
entry r = record { word = r.word.now; rule = r.rule }

-- the six words
abbrev pub entries : List Entry
entries =
    record { word = codes "AND"; rule = record { inputs = Exactly 2; results = Exactly 1; making = Product } }
    ∷ record { word = codes "XOR"; rule = record { inputs = Exactly 2; results = Exactly 1; making = Sum } }
    ∷ record { word = codes "INV"; rule = record { inputs = Exactly 1; results = Exactly 1; making = Inversion } }
    ∷ record { word = codes "EQ"; rule = record { inputs = Exactly 1; results = Exactly 1; making = Constant } }
    ∷ record { word = codes "EQW"; rule = record { inputs = Exactly 1; results = Exactly 1; making = Copy } }
    ∷ record { word = codes "MAND"; rule = record { inputs = Times 2; results = Times 1; making = Product } }
    ∷ []

-- the rule of the first row with this word
abbrev pub look_up : List Entry → List ℕ → Option Rule
look_up [] w = None
look_up (e ∷ es) w = cond (bytes_eq e.word w) (Some e.rule) (look_up es w)

-- the rule of a gate word, if it is one
abbrev pub rule_of : List ℕ → Option Rule
rule_of w = look_up entries w
