-- A cursor in its text.
use Rattle.std.specs.Prelude.{◌≡◌, ℕ, ◌+◌, List, drop}
use Rattle.tokens.specs.declared.cursor.Cursor.{Cursor}

-- the bytes of its text
abbrev pub text_of : Cursor → List ℕ
text_of c = c.text.now

-- the bytes from its place on
abbrev pub rest_of : Cursor → List ℕ
rest_of c = drop c.at c.text.now

-- d is c, n bytes on
pub record Moved (c d : Cursor) (n : ℕ) : Type 0 where
  pub text : d.text ≡ c.text
  pub at : d.at ≡ c.at + n
  pub line : d.line ≡ c.line
