-- Bytes put on a page, one after another.
use Rattle.std.specs.Prelude.{◌≡◌, ℕ, ◌+◌, ◌-◌, ◌^◌, List, [], ◌∷◌, min, set}
use Rattle.writing.specs.declared.page.Page.{Page}

-- the place of the next byte: the count goes no further than 2 ^ 64 - 1
abbrev pub on : ℕ → ℕ
on at = min (at + 1) (2 ^ 64 - 1)

-- how many bytes came
abbrev pub counted : ℕ → List ℕ → ℕ
counted at [] = at
counted at (b ∷ bs) = counted (on at) bs

-- the memory with each byte in its place, as far as the memory goes
abbrev pub kept : List ℕ → ℕ → List ℕ → List ℕ
kept out at [] = out
kept out at (b ∷ bs) = kept (set out at b) (on at) bs

-- these bytes are put on a page
pub record Puts (before : Page) (bytes : List ℕ) (after : Page) : Type 0 where
  pub counts : after.at ≡ counted before.at bytes
  pub keeps : after.out.now ≡ kept before.out.now before.at bytes
  pub lends : after.out.ghost_name ≡ before.out.ghost_name
