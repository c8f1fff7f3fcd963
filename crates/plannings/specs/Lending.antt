-- The memory that is lent to a planning with what is kept besides, and calls on it.
use Rattle.std.specs.Prelude.{List}
use Rattle.circuits.specs.declared.making.Making.{Making}
use Rattle.rows.specs.Rows.{SameRows}
use Rattle.rows.specs.Held.{circuit_in}
use Rattle.runs.specs.Events.{Event}
use Rattle.runs.specs.Told.{Told}
use Rattle.runs.specs.Machine.{Standing, Does}
use Rattle.plannings.specs.declared.lent.Lent.{Lent}
use Rattle.plannings.specs.Ready.{standing_of, Ready, Turned, Tells, New}

-- the bars, the flow and the stage
abbrev pub standing : Lent → Standing
standing l = standing_of l.rows.memory.now l.rows.wires l.kept

-- it can be called
abbrev pub IsReady : Lent → Type 0
IsReady l = Ready l.rows.wires l.rows.memory.now l.kept

-- a call does what is asked, and leaves it ready in the same memory
pub record Turns (l : Lent) (e : Event) (l' : Lent) : Type 0 where
  pub rows : SameRows l.rows l'.rows
  pub turned : Turned l.rows.wires l.rows.memory.now l.kept e l'.rows.memory.now l'.kept

-- a call that leaves it alone does what is asked
abbrev pub Leaves : Lent → Event → Type 0
Leaves l e = Does (circuit_in l.rows) (standing l) e (standing l)

-- what it tells holds of the bars, the state and the routes that it shows
abbrev pub TellsOf : Lent → (Told → Type 0) → Type 0
TellsOf l P = Tells l.rows.wires l.rows.memory.now l.kept P

-- a new planning of the circuit
abbrev pub IsNew : List Making → Lent → Type 0
IsNew c l = New c l.rows.wires l.rows.memory.now l.kept
