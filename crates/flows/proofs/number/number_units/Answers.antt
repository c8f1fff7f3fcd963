use Rattle.std.proofs.Common.{sym, subst, arith}
use Rattle.rows.specs.Rows.{Between}
use Rattle.rows.specs.Held.{circuit_of}
use Rattle.flows.specs.Kept.{flow_in}
use Rattle.flows.specs.Numbers.{Numbers, Numbering}
use Rattle.flows.proofs.Kept.{flows_after, routes_after}
use Rattle.flows.proofs.Numbers.{numbers_now, numbering_then}
use Rattle.flows.proofs.number.number_units.Goals as goal

pub number_wires-requires-clause-flows : goal.number_wires-requires-clause-flows
number_wires-requires-clause-flows c =
    flows_after (Between 15 17) c.args.rows.now c.begin_numbers.new.rows c.begin_numbers.ensures.same (λ r l f. omega arith) c.begin_numbers.ensures.memory.rest c.requires.flows

pub number_wires-requires-clause-few : goal.number_wires-requires-clause-few
number_wires-requires-clause-few c =
    omega (
      arith,
      c.requires.few,
      routes_after (Between 15 17) c.args.rows.now c.begin_numbers.new.rows c.begin_numbers.ensures.same (λ r l f. omega arith) c.begin_numbers.ensures.memory.rest,
    )

pub number_wires-requires-clause-numbers : goal.number_wires-requires-clause-numbers
number_wires-requires-clause-numbers c =
    let l = c.begin_numbers.new.rows.memory.now in
    subst (λ n. Numbers (circuit_of l n) (flow_in l n) n l 0) (sym c.begin_numbers.ensures.same.wires)
    (numbers_now c.args.rows.now.wires c.args.rows.now.memory.now l 0 c.begin_numbers.ensures.memory)

pub returns-clause-memory : goal.returns-clause-memory
returns-clause-memory c =
    let n = c.args.rows.now.wires in
    let l = c.begin_numbers.new.rows.memory.now in
    let m = c.number_wires.new.rows.memory.now in
    numbering_then n c.args.rows.now.memory.now l m 0 n c.begin_numbers.ensures.memory
    (subst (λ n. Numbering n l m n) c.begin_numbers.ensures.same.wires c.number_wires.ensures.memory)
