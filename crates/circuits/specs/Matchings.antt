-- The matching circuit of width b.
use Rattle.std.specs.Prelude.{◌≡◌, ℕ, ◌+◌, ◌-◌, ◌*◌, ◌<◌, cond, ◌⊎◌, map, ◌==◌, nat_lt}
use Rattle.std.specs.List.{range_with_len}
use Rattle.circuits.specs.Answers.{number_of}
use Rattle.circuits.specs.Circuits.{Meaning}
use Rattle.circuits.specs.declared.answer.Refusal.{Refusal}
use Rattle.circuits.specs.declared.making.Making.{Making}
use Rattle.circuits.specs.declared.making.Making.TheVariants.{Input, Inversion, Sum, Product}

-- how the wire at rank k is made
abbrev pub matching_making : ℕ → ℕ → Making
matching_making b k =
    cond (nat_lt k (2 * b)) Input
    (cond (nat_lt k (3 * b)) (Sum (k - 2 * b) (k - b))
    (cond (nat_lt k (4 * b)) (Inversion (k - b))
    (cond (k == 4 * b) (Product (3 * b + 1) (3 * b))
    (Product (k - b + 1) (k - 1)))))

abbrev pub matching : ℕ → Meaning
matching b = record {
  makings = map (matching_making b) (range_with_len 0 (5 * b - 1));
  names = range_with_len 0 (5 * b - 1);
  inputs = 2 * b;
  outputs = 1;
}

-- the width has no matching circuit, and that is said by 14
pub record Unfit (b : ℕ) (e : Refusal) : Type 0 where
  pub outside : (b < 1) ⊎ (4096 < b)
  pub number : number_of e ≡ 14
