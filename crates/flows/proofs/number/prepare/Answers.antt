use Rattle.std.proofs.Common.{rules, sym, ap, ◌∙◌, subst, arith}
use Rattle.rows.specs.Rows.{Between}
use Rattle.rows.proofs.Cells.{only_then, only_wider}
use Rattle.flows.specs.Numbers.{Numbering, Prepared}
use Rattle.flows.specs.Kept.{Flows, routes_in}
use Rattle.flows.proofs.Kept.{flows_kept, routes_kept}
use Rattle.flows.proofs.Endings.{ready}
use Rattle.flows.proofs.number.prepare.Goals as goal

pub number_units-requires-clause-flows : goal.number_units-requires-clause-flows
number_units-requires-clause-flows c =
    subst (λ n. Flows n c.number_ends.new.rows.memory.now) (sym c.number_ends.ensures.same.wires)
    (flows_kept (Between 18 19) c.args.rows.now.wires c.args.rows.now.memory.now c.number_ends.new.rows.memory.now (λ r l f. omega arith) c.number_ends.ensures.memory.rest c.requires.flows)

pub number_units-requires-clause-few : goal.number_units-requires-clause-few
number_units-requires-clause-few c =
    omega (
      arith,
      c.requires.few,
      c.args.rows.now.few,
      ap (routes_in c.number_ends.new.rows.memory.now) c.number_ends.ensures.same.wires,
      routes_kept (Between 18 19) c.args.rows.now.wires c.args.rows.now.memory.now c.number_ends.new.rows.memory.now (λ r l f. omega arith) c.number_ends.ensures.memory.rest,
    )

pub returns-clause-memory : goal.returns-clause-memory
returns-clause-memory c =
    let n = c.args.rows.now.wires in
    let m = c.args.rows.now.memory.now in
    let l = c.number_ends.new.rows.memory.now in
    let k = c.number_units.new.rows.memory.now in
    let numbered = subst (λ n. Numbering n l k n) c.number_ends.ensures.same.wires c.number_units.ensures.memory in
    subst (Prepared n m) (search (rules, c.number_units.ensures.same.place ∙ c.number_ends.ensures.same.place))
    (record {
      ready = ready n m l k c.number_ends.ensures.memory numbered;
      rest = only_then (Between 15 19) n m l k
          (only_wider (Between 15 19) n (Between 18 19) m l (λ r f. (omega (arith, f.0), f.1)) c.number_ends.ensures.memory.rest)
          (only_wider (Between 15 19) n (Between 15 17) l k (λ r f. (f.0, omega (arith, f.1))) numbered.rest);
    })
