use Rattle.std.proofs.Common.{◌∙◌, subst}
use Rattle.rows.specs.Fed.{FreshLoad}
use Rattle.rows.proofs.Wholes.{ordered₂, flagged₂, ordered₃, counted₃, ordered₅, filled₅, fresh}
use Rattle.rows.proofs.rows.Rows.load.Goals as goal

pub flag_goals-requires : goal.flag_goals-requires
flag_goals-requires g c =
    let ci = (g.C.Circuit.meaning c.args.circuit.now).makings in
    let ord = (g.C.Circuit.laws c.args.circuit.now).fed in
    let made = c.put_makings.ensures.makings in
    let s₁ = c.put_makings.new.self in
    let s₂ = c.clear.new.self in
    let e₂ = c.clear.ensures in
    record { ordered = ordered₂ ci ord s₁ s₂ made e₂.same e₂.memory; flagged = flagged₂ ci ord s₁ s₂ made e₂.same e₂.memory }

pub count_wires-requires : goal.count_wires-requires
count_wires-requires g c =
    let ci = (g.C.Circuit.meaning c.args.circuit.now).makings in
    let ord = (g.C.Circuit.laws c.args.circuit.now).fed in
    let made = c.put_makings.ensures.makings in
    let s₁ = c.put_makings.new.self in
    let s₂ = c.clear.new.self in
    let s₃ = c.flag_goals.new.self in
    let e₂ = c.clear.ensures in
    let e₃ = c.flag_goals.ensures in
    record { ordered = ordered₃ ci ord s₁ s₂ made e₂.same e₂.memory s₃ e₃.same e₃.rest; counted = counted₃ ci ord s₁ s₂ made e₂.same e₂.memory s₃ e₃.same e₃.rest }

pub place_wires-requires : goal.place_wires-requires
place_wires-requires g c =
    let ci = (g.C.Circuit.meaning c.args.circuit.now).makings in
    let ord = (g.C.Circuit.laws c.args.circuit.now).fed in
    let made = c.put_makings.ensures.makings in
    let s₁ = c.put_makings.new.self in
    let s₂ = c.clear.new.self in
    let s₃ = c.flag_goals.new.self in
    let s₄ = c.count_wires.new.self in
    let s₅ = c.space_lists.new.self in
    let e₂ = c.clear.ensures in
    let e₃ = c.flag_goals.ensures in
    let e₄ = c.count_wires.ensures in
    let e₅ = c.space_lists.ensures in
    record {
      ordered = ordered₅ ci ord s₁ s₂ made e₂.same e₂.memory s₃ e₃.same e₃.rest s₄ e₄.same e₄.rest s₅ e₅.same e₅.rest e₅.spaced;
      filled = filled₅ ci ord s₁ s₂ made e₂.same e₂.memory s₃ e₃.same e₃.rest s₄ e₄.same e₄.rest s₅ e₅.same e₅.rest e₅.spaced;
    }

pub returns-clause-fresh : goal.returns-clause-fresh
returns-clause-fresh g c =
    let ci = (g.C.Circuit.meaning c.args.circuit.now).makings in
    let ord = (g.C.Circuit.laws c.args.circuit.now).fed in
    let made = c.put_makings.ensures.makings in
    let s₁ = c.put_makings.new.self in
    let s₂ = c.clear.new.self in
    let s₃ = c.flag_goals.new.self in
    let s₄ = c.count_wires.new.self in
    let s₅ = c.space_lists.new.self in
    let s₆ = c.place_wires.new.self in
    let e₂ = c.clear.ensures in
    let e₃ = c.flag_goals.ensures in
    let e₄ = c.count_wires.ensures in
    let e₅ = c.space_lists.ensures in
    let e₆ = c.place_wires.ensures in
    let wires = e₆.same.wires ∙ e₅.same.wires ∙ e₄.same.wires ∙ e₃.same.wires ∙ e₂.same.wires ∙ c.put_makings.ensures.same.wires in
    subst (λ n. FreshLoad ci n s₆.memory.now) wires
    (fresh ci ord s₁ s₂ made e₂.same e₂.memory s₃ e₃.same e₃.rest s₄ e₄.same e₄.rest s₅ e₅.same e₅.rest e₅.spaced s₆ e₆.same e₆.rest e₃.flagged e₆.filled)
