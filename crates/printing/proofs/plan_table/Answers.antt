use Rattle.std.proofs.Common.{◌*◌, length, take, arith}
use Rattle.std.proofs.lemmas.Bool.{lt-ltb}
use Rattle.printing.proofs.Tables.{plans_short}
use Rattle.printing.proofs.plan_table.Goals as goal

pub returns-then-memory-wires-clause-planned : goal.returns-then-memory-wires-clause-planned
returns-then-memory-wires-clause-planned c =
    let es = c.args.entries.now in
    plans_short es (take (length es) c.args.ranks.now) c.args.header.inputs c.args.header.outputs c.requires.fits _
    (lt-ltb (length c.args.memory.now) (24 * length es) (omega arith)) c.args.ranks.now
