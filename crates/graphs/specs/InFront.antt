-- What the rows in front say of a wire.
use Rattle.std.specs.Prelude.{ℕ, List}
use Rattle.rows.specs.Rows.{cell}
use Rattle.graphs.specs.Fronts.{lists_of}
use Rattle.graphs.specs.declared.front.Front.{Front}

-- its number in a row
abbrev pub number_at : Front → ℕ → ℕ → ℕ
number_at front r w = cell front.rows.now front.wires.count r w

-- its list
abbrev pub list_of : Front → ℕ → List ℕ
list_of front w = lists_of front.wires.count front.rows.now w
