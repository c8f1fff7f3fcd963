-- What a growth and a scheme are.
use Rattle.std.specs.Prelude.{◌≡◌, ℕ, ◌+◌, ◌<◌, ◌≤◌, max}

-- the level of a sum and of a product, by the levels of the two operands
pub record Tables : Type 0 where
  pub sum : ℕ → ℕ → ℕ
  pub product : ℕ → ℕ → ℕ

pub record Level (a : ℕ) : Type 0 where
  pub low : 1 ≤ a
  pub high : a ≤ 64

pub record Grows (t : Tables) : Type 0 where
  pub sum_larger : (a b : ℕ) → Level a → Level b → t.sum a b ≡ max a b
  pub product_above : (a b : ℕ) → Level a → Level b → max a b + 1 ≤ t.product a b
  pub product_most : (a b : ℕ) → Level a → Level b → t.product a b ≤ 128
  pub product_first : t.product 1 1 ≡ 2

-- a limit and the level after a refresh
pub record Bounded (most renewed : ℕ) : Type 0 where
  pub limit_low : 2 ≤ most
  pub limit_high : most ≤ 64
  pub fresh_low : 1 ≤ renewed
  pub fresh_high : renewed < most

abbrev pub exponential : Tables
exponential = record { sum = max; product = λ a b. a + b }

abbrev pub linear : Tables
linear = record { sum = max; product = λ a b. max a b + 1 }
