-- Laws of decimal numbers.
use Rattle.std.proofs.Common.{◌≡◌, ℕ, ◌^◌, ◌<◌, List, drop}
use Rattle.tokens.specs.Numbers.{digits, value_after}

-- the first i bytes are digits and write n
pub record Sofar (bs : List ℕ) (i n : ℕ) : Type 0 where
  pub small : n < 10 ^ i
  pub all : digits (drop i bs) ≡ digits bs
  pub value : value_after n (drop i bs) ≡ value_after 0 bs
