use Rattle.std.proofs.Common.{◌≡◌, ◌-◌, length, take, Err, sym, refl, ap, ◌∙◌, arith}
use Rattle.std.proofs.lemmas.Result.{err_from_is_err_and}
use Rattle.reading.specs.Texts.{outcome}
use Rattle.printing.proofs.Tables.{plan_refused, plan_written}
use Rattle.printing.proofs.Readings.{read_of, read_past, printed_plan, printed_fault}
use Rattle.printing.proofs.print.Goals as goal

pub returns-in_err-count-in-Ok : goal.returns-in_err-count-in-Ok
returns-in_err-count-in-Ok c =
    let o = outcome c.args.text.now c.args.limit c.args.table.now c.args.ranks.now in
    let told = c.in-Ok.ensures in
    let es = take (c.in-Ok.header.wires - 0) c.read_circuit.new.table in
    let read = read_of o c.in-Ok.header _ c.args.table.now _ c.read_circuit.new.ranks told.answer told.table told.answered in
    let is = err_from_is_err_and c.from_residual.result c.from_residual.ensures.1 in
    let wrote =
    plan_refused es _ _ c.plan_table.result _ read.long c.plan_table.ensures.planned c.in_err-count-in-Ok.field-0.0 (sym c.in_err-count-in-Ok.was) c.from_residual.result
    (is.1 ∙ ap Err is.2) c.args.out.now in
    let end = printed_plan o c.in-Ok.header es read.is (length c.args.memory.now) c.args.ranks.now _ _ _ told.ranks _ _ wrote in
    record { printed = end.0; table = told.table; ranks = end.1; past = read_past o c.in-Ok.header es read.is _ _ c.plan_table.ensures.past }

pub returns-in_ok-count-in-Ok : goal.returns-in_ok-count-in-Ok
returns-in_ok-count-in-Ok c =
    let o = outcome c.args.text.now c.args.limit c.args.table.now c.args.ranks.now in
    let told = c.in-Ok.ensures in
    let es = take (c.in-Ok.header.wires - 0) c.read_circuit.new.table in
    let after = c.plan_table.new.ranks in
    let k = c.in_ok-count-in-Ok.count in
    let read = read_of o c.in-Ok.header _ c.args.table.now _ c.read_circuit.new.ranks told.answer told.table told.answered in
    let all : k - 0 ≡ k = omega arith in
    let wrote =
    plan_written es _ _ c.plan_table.result after read.long c.plan_table.ensures.planned k (sym c.in_ok-count-in-Ok.was) (take (k - 0) after) (ap (λ n. take n after) all)
    c.args.out.now c.write_plan.result c.write_plan.new.out c.write_plan.ensures in
    let end = printed_plan o c.in-Ok.header es read.is (length c.args.memory.now) c.args.ranks.now _ _ _ told.ranks _ _ wrote in
    record { printed = end.0; table = told.table; ranks = end.1; past = read_past o c.in-Ok.header es read.is _ _ c.plan_table.ensures.past }

pub returns-in-Err : goal.returns-in-Err
returns-in-Err c =
    let o = outcome c.args.text.now c.args.limit c.args.table.now c.args.ranks.now in
    let told = c.in-Err.ensures in
    let end =
    printed_fault o c.in-Err.fault told.answer (length c.args.memory.now) c.args.ranks.now c.read_circuit.new.ranks c.args.out.now told.ranks c.write_fault.result
    c.write_fault.new.out c.write_fault.ensures in
    record { printed = end.0; table = told.table; ranks = end.1; past = refl }
