-- The memory of a reading.
use Rattle.std.specs.Prelude.{◌≡◌, List, length, take}
use Rattle.circuits.specs.declared.making.Entry.{Entry}
use Rattle.reading.specs.declared.made.Made.{Made}

-- the wires made so far
abbrev pub wires_of : Made → List Entry
wires_of m = take m.count m.table.now

-- b is the same lent memory as a
pub record Lasts (a b : Made) : Type 0 where
  pub table : b.table.ghost_name ≡ a.table.ghost_name
  pub ranks : b.ranks.ghost_name ≡ a.ranks.ghost_name
  pub rows : length b.table.now ≡ length a.table.now
