use Rattle.std.proofs.Common.{◌≡◌, ◌+◌, ◌<◌, length, Some, None, Option, sym, refl, ap, ◌∙◌, subst, arith}
use Rattle.circuits.specs.declared.making.Making.TheVariants.{Input}
use Rattle.circuits.proofs.Lookups.{nth_within, nth_absent}
use Rattle.rows.specs.Held.{circuit_of}
use Rattle.rows.specs.Loading.{Put}
use Rattle.rows.proofs.Loadings.{Copied, copied_more, copied_all}
use Rattle.rows.proofs.Rooms.{room_after, same_then}
use Rattle.rows.proofs.rows.Rows.put_makings.Invariants.{MadeBelow}
use Rattle.rows.proofs.rows.Rows.put_makings.Goals as goal
use Rattle.rows.proofs.rows.Rows.put_makings.Goals.{in-Some, in_default}

none : {A : Type 0} (o : Option A) → ((x : A) → o ≡ Some x → ⊥) → o ≡ None
none (Some x) not = absurd (not x refl)
none None not = refl

pub loop-wire-preserved : goal.loop-wire-preserved
loop-wire-preserved g c =
    let s = c.args.self.now in
    let n = s.wires in
    let k = c.loop-wire.wire in
    let ms = (g.C.Circuit.meaning c.args.circuit.now).makings in
    let within : k < length ms = omega (arith, c.loop-wire-test.true, c.requires.wires) in
    elim c.match-making.branch [
      | in-Some v ↦ subst (MadeBelow ms s (k + 1)) (sym v.self-is) (
        same_then s c.loop-wire.self v.put_making.new.self c.loop-wire.invariant.0 v.put_making.ensures.same,
        copied_more n c.loop-wire.self.memory.now v.put_making.new.self.memory.now ms k v.in-Some.how c.loop-wire.invariant.1
            (subst (λ j. Put j c.loop-wire.self.memory.now v.put_making.new.self.memory.now k v.in-Some.how) c.loop-wire.invariant.0.wires v.put_making.ensures.put)
            (sym (nth_within ms k Input v.in-Some.how within (sym v.in-Some.ensures))),
      )
      | in_default v ↦ absurd (nth_absent ms k Input within (sym c.making.ensures ∙ none c.making.result v.in_default.not-Some))
    ]

pub returns-clause-makings : goal.returns-clause-makings
returns-clause-makings g c =
    let s = c.args.self.now in
    let t = c.loop-wire.self in
    let m = t.memory.now in
    let n = s.wires in
    let ms = (g.C.Circuit.meaning c.args.circuit.now).makings in
    let same = c.loop-wire.invariant.0 in
    let e : c.loop-wire.wire ≡ n = omega arith in
    ap (circuit_of m) same.wires ∙ copied_all n m ms (room_after s t same) (sym c.requires.wires) (subst (Copied n m ms) e c.loop-wire.invariant.1)
