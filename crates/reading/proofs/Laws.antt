-- The laws of circuits, entry by entry, as they hold while wires are made.
use Rattle.std.proofs.Common.{◌≡◌, ℕ, ◌<◌, ◌≤◌, List, length}
use Rattle.circuits.specs.Circuits.{Feeds}
use Rattle.circuits.specs.declared.making.Entry.{Entry}
use Rattle.circuits.specs.declared.making.Making.TheVariants.{Input}
use Rattle.reading.specs.Texts.{entry_at}

-- the wires made so far
pub record Sofar (wires inputs : ℕ) (es : List Entry) : Type 0 where
  pub enough : inputs ≤ length es
  pub first : (k : ℕ) → k < inputs → entry_at es k ≡ record { making = Input; name = k }
  pub only : (k : ℕ) → inputs ≤ k → k < length es → (entry_at es k).making ≡ Input → ⊥
  pub fed : (k : ℕ) → k < length es → Feeds k (entry_at es k).making
  pub named : (k : ℕ) → k < length es → (entry_at es k).name < wires
  pub apart : (j k : ℕ) → j < k → k < length es → (entry_at es j).name ≡ (entry_at es k).name → ⊥

-- all wires
pub record Sound (wires inputs outputs : ℕ) (es : List Entry) : Type 0 where
  pub some : 1 ≤ wires
  pub most : wires ≤ 1048576
  pub outputs_fit : outputs ≤ wires
  pub all : length es ≡ wires
  pub laws : Sofar wires inputs es
