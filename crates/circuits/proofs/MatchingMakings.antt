-- How a wire of a matching circuit is looked up.
use Rattle.std.proofs.Common.{◌≡◌, ℕ, ◌-◌, ◌*◌, ◌<◌, Some, sym, ap, ◌∙◌}
use Rattle.std.specs.List.{slice_get}
use Rattle.circuits.specs.Matchings.{matching, matching_making}
use Rattle.circuits.specs.declared.making.Making.{Making}
use Rattle.circuits.proofs.Lookups.{nth_counted}

pub made : (b k : ℕ) (m : Making) → k < 5 * b - 1 → matching_making b k ≡ m → Some m ≡ slice_get (matching b).makings k
made b k m h e = sym (nth_counted (matching_making b) (5 * b - 1) k h ∙ ap Some e)
