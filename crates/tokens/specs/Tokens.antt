-- The tokens of a line.
use Rattle.std.specs.Prelude.{ℕ, ◌+◌, cond, List, [], ◌∷◌, length, take, drop, Some, None, Ok, Err, Option, Result, ◌==◌}
use Rattle.std.specs.List.{prefix_len}
use Rattle.circuits.specs.declared.answer.Refusal.TheVariants as refusal
use Rattle.tokens.specs.declared.fault.Fault.{Fault}
use Rattle.tokens.specs.declared.token.Token.{Token}
use Rattle.tokens.specs.declared.token.Token.TheVariants.{Number, Word, End}
use Rattle.tokens.specs.Places.{visible, blank}
use Rattle.tokens.specs.Numbers.{value_of}
use Rattle.tokens.specs.Faults.{fault_at}

-- what a token is, apart from where its bytes lie in memory
pub data Piece : Type 0 where
  number : ℕ → List ℕ → ℕ → Piece
  word : List ℕ → ℕ → Piece
  end : ℕ → Piece

-- the token that these bytes are
abbrev pub sorted : Option ℕ → List ℕ → ℕ → Piece
sorted (Some n) bs at = number n bs at
sorted None bs at = word bs at

-- a token is a longest row of visible bytes
abbrev pub front : List ℕ → List ℕ
front bs = take (prefix_len visible bs) bs

-- what stands where neither a separator nor a token begins
abbrev pub no_token : List ℕ → ℕ → List ℕ → Result Piece Fault
no_token text at [] = Ok (end at)
no_token text at (b ∷ bs) = cond (b == 10) (Ok (end at)) (Err (fault_at text refusal.ByteNotAllowed at))

-- the first token of a line's rest, which begins at an offset of the text, or the line's end
abbrev pub next_token : List ℕ → ℕ → List ℕ → Result Piece Fault
next_token text at [] = Ok (end at)
next_token text at (b ∷ bs) =
    cond (blank b) (next_token text (at + 1) bs)
    (cond (visible b) (Ok (sorted (value_of (front (b ∷ bs))) (front (b ∷ bs)) at))
    (no_token text at (b ∷ bs)))

-- the first token from an offset of the text on
abbrev pub token_at : List ℕ → ℕ → Result Piece Fault
token_at text at = next_token text at (drop at text)

-- where a reader stands after it
abbrev pub past : Result Piece Fault → ℕ
past (Ok (number n bs at)) = at + length bs
past (Ok (word bs at)) = at + length bs
past (Ok (end at)) = at
past (Err f) = f.byte

-- where it begins
abbrev pub start : Result Piece Fault → ℕ
start (Ok (number n bs at)) = at
start (Ok (word bs at)) = at
start (Ok (end at)) = at
start (Err f) = f.byte

-- a token of the code, by its bytes
abbrev pub piece : Token → Piece
piece (Number n bs at) = number n bs.now at
piece (Word bs at) = word bs.now at
piece (End at) = end at

-- an answer of the code, by the bytes of its token
abbrev pub meant : Result Token Fault → Result Piece Fault
meant (Ok t) = Ok (piece t)
meant (Err f) = Err f
