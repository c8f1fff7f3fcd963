use Rattle.std.proofs.Common.{◌≡◌, length, Err, sym, ap, ◌∙◌, subst}
use Rattle.std.proofs.lemmas.Result.{err_from_is_err_and}
use Rattle.circuits.specs.declared.answer.Refusal.TheVariants as refusal
use Rattle.tokens.specs.Faults.{fault_at}
use Rattle.tokens.specs.Lines.{number_at, gate_of}
use Rattle.reading.specs.Texts.{line_makes}
use Rattle.reading.specs.Holds.{Whole, bodied}
use Rattle.reading.specs.Memory.{wires_of}
use Rattle.reading.proofs.GateLines.{gate_breaks, gate_refused, gate_made, gate_whole, wires_here}
use Rattle.reading.proofs.made.Made.gate_here.Goals as goal

pub returns-in_err-line-clause-result : goal.returns-in_err-line-clause-result
returns-in_err-line-clause-result c =
    let told = c.in_err-line.ensures in
    let p = err_from_is_err_and c.from_residual.result c.from_residual.ensures.1 in
    rw (p.1, p.2) (gate_breaks c.args.cursor.now.text.now (length c.args.self.now.table.now) (wires_of c.args.self.now) c.args.cursor.now.at _ told.result)

pub returns-then-not-does_suit-clause-result : goal.returns-then-not-does_suit-clause-result
returns-then-not-does_suit-clause-result c =
    let told = c.in_ok-line.ensures in
    ap Err (c.fault.ensures c.reread-first.ensures.line) ∙ ap (λ r. Err (fault_at r.now refusal.CountsDoNotSuit c.reread-first.result.at)) c.reread-first.ensures.text
    ∙ gate_refused c.args.cursor.now.text.now (length c.args.self.now.table.now) (wires_of c.args.self.now) c.args.cursor.now.at c.in_ok-line.line _ told.result c.reread-first.result _ c.reread-first.ensures.value (sym c.if-not-does_suit.ensures)

pub line-requires : goal.line-requires
line-requires c =
    let line = c.in_ok-line.ensures in
    let same = c.reread.ensures.text ∙ c.reread-first.ensures.text in
    record {
      whole = subst (λ r. Whole r.now c.in_ok-line.line) (sym same) (gate_whole c.args.cursor.now.text.now (length c.args.self.now.table.now) (wires_of c.args.self.now) c.args.cursor.now.at c.in_ok-line.line _ line.result (sym c.if-not-does_suit.ensures));
      here = wires_here c.args.cursor.now.text.now (length c.args.self.now.table.now) (wires_of c.args.self.now) c.args.cursor.now.at c.in_ok-line.line _ line.result c.reread-first.result c.reread.result _ _ c.reread-first.ensures.value (c.reread.ensures.value ∙ ap (λ r. number_at r.now c.reread-first.new.cursor.at) c.reread-first.ensures.text);
    }

pub returns-clause-result : goal.returns-clause-result
returns-clause-result c =
    let read = c.in_ok-line.ensures in
    let same = c.reread.ensures.text ∙ c.reread-first.ensures.text in
    gate_made c.args.cursor.now.text.now (length c.args.self.now.table.now) (wires_of c.args.self.now) c.args.cursor.now.at c.in_ok-line.line _ read.result (sym c.if-not-does_suit.ensures) _ (subst (λ r. bodied c.line.result (wires_of c.line.new.self) ≡ line_makes r.now (length c.args.self.now.table.now) (wires_of c.args.self.now) (gate_of r.now c.in_ok-line.line)) same c.line.ensures.result)
