use Rattle.std.proofs.Common.{◌≡◌, ℕ, ◌+◌, ◌-◌, ◌<◌, ◌≤◌, List, length, get_or, take, drop, sym, refl, ap, ◌∙◌, subst, arith}
use Rattle.std.proofs.lemmas.List.{take_all, get_or-drop, length-drop}
use Rattle.circuits.specs.declared.making.Entry.{Entry}
use Rattle.reading.specs.Texts.{blank_entry, entry_at}
use Rattle.writing.specs.Pages.{Puts}
use Rattle.writing.specs.Writes.{table_of, making_text, wires_text}
use Rattle.writing.specs.declared.page.Page.{Page}
use Rattle.writing.proofs.Pages.{puts_next, puts_same}
use Rattle.writing.proofs.Sounds.{table_length}
use Rattle.writing.proofs.CircuitText.put_wires.Goals as goal

-- the line of the wire at a rank
abbrev line : List Entry → Entry → List ℕ
line es e = making_text es e.making e.name

next : (es : List Entry) (first rank : ℕ) → first ≤ rank → rank < length es → {p q r : Page}
    → Puts p (wires_text es (take (rank - first) (drop first es))) q → Puts q (line es (entry_at es rank)) r → Puts p (wires_text es (take (rank + 1 - first) (drop first es))) r
next es first rank le lt {p} {q} {r} a b =
    let i : ℕ = rank - first in
    let more : i + 1 ≡ rank + 1 - first = omega (arith, le) in
    let at : first + i ≡ rank = omega (arith, le) in
    let here : entry_at es rank ≡ get_or (drop first es) i blank_entry = ap (entry_at es) (sym at) ∙ sym (get_or-drop first es i blank_entry) in
    subst (λ k. Puts p (wires_text es (take k (drop first es))) r) more
    (puts_next (wires_text es) (line es) refl (λ _ _. refl) (drop first es) i blank_entry (omega (arith, lt, length-drop first es)) a (puts_same (ap (line es) here) b))

pub loop-rank-preserved : goal.loop-rank-preserved
loop-rank-preserved g c =
    let m = g.C.Circuit.meaning c.args.self.now.circuit.now in
    let long = table_length m (g.C.Circuit.laws c.args.self.now.circuit.now) in
    next (table_of m) m.inputs c.loop-rank.rank (omega (arith, c.inputs-first.ensures, c.loop-rank.auto.rank))
    (omega (arith, long, c.wires-rank-end.ensures, c.loop-rank-test.true)) c.loop-rank.invariant c.put_wire.ensures

pub returns : goal.returns
returns g c =
    let m = g.C.Circuit.meaning c.args.self.now.circuit.now in
    let long = table_length m (g.C.Circuit.laws c.args.self.now.circuit.now) in
    let all : length (drop m.inputs (table_of m)) ≤ c.loop-rank.rank - m.inputs = omega (arith, long, length-drop m.inputs (table_of m), c.wires-rank-end.ensures, c.loop-rank-test.false) in
    puts_same (ap (wires_text (table_of m)) (take_all (c.loop-rank.rank - m.inputs) (drop m.inputs (table_of m)) all)) c.loop-rank.invariant
