-- Inputs of a gate line that pass their test, one by one.
use Rattle.std.proofs.Common.{◌≡◌, ℕ, zero, suc, ◌<◌, true, List, [], ◌∷◌, length, Ok, arith}
use Rattle.circuits.specs.declared.making.Entry.{Entry}
use Rattle.circuits.specs.declared.answer.Refusal.TheVariants as refusal
use Rattle.tokens.specs.declared.gate.Gate.{Gate}
use Rattle.tokens.specs.declared.token.Numeral.{Numeral}
use Rattle.tokens.specs.Faults.{fault_at}
use Rattle.tokens.proofs.Readings.{cond_inv}
use Rattle.reading.specs.Texts.{input_ok, inputs_ok, value_at}

module _ (text : List ℕ) (before : List Entry) (m : Gate) where
  pub all_fine : (is : List Numeral) (u : Unit {0}) → inputs_ok text m before is ≡ Ok u → (k : ℕ) → k < length is → input_ok m before (value_at is k) ≡ true
  all_fine [] u e k lt = absurd (omega arith)
  all_fine (i ∷ is) u e zero lt = (cond_inv (input_ok m before i.value) (inputs_ok text m before is) (fault_at text refusal.BadInput i.at) u e).0
  all_fine (i ∷ is) u e (suc k) lt = all_fine is u (cond_inv (input_ok m before i.value) (inputs_ok text m before is) (fault_at text refusal.BadInput i.at) u e).1 k (omega arith)
