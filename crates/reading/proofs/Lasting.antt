-- The same lent memory, step by step.
use Rattle.std.proofs.Common.{◌∙◌}
use Rattle.reading.specs.declared.made.Made.{Made}
use Rattle.reading.specs.Memory.{Lasts}

pub lasts_on : (a b c : Made) → Lasts a b → Lasts b c → Lasts a c
lasts_on a b c f g = record { table = g.table ∙ f.table; ranks = g.ranks ∙ f.ranks; rows = g.rows ∙ f.rows }
