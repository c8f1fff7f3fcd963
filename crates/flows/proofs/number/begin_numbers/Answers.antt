use Rattle.std.proofs.Common.{◌*◌, ap}
use Rattle.flows.proofs.Numbers.{begun_copied}
use Rattle.flows.proofs.number.begin_numbers.Goals as goal

pub returns-clause-memory : goal.returns-clause-memory
returns-clause-memory c =
    let n = c.args.rows.now.wires in
    let e = c.copy_within.ensures in
    begun_copied n c.args.rows.now.memory.now c.copy_within.new.self e.len (c.number.result * n) (c.number-2.result * n) (ap (λ r. r * n) c.number.ensures) (ap (λ r. r * n) c.number-2.ensures)
    e.by_index.0 e.by_index.1 e.by_index.2
