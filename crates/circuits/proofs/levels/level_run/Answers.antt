use Rattle.std.proofs.Common.{[], sym, subst, rules}
use Rattle.circuits.specs.Levels.{rules as scheme_rules, run_from, Told}
use Rattle.circuits.proofs.LevelsMean.{right}
use Rattle.circuits.proofs.levels.level_run.Goals as goal

pub returns-clause-ran : goal.returns-clause-ran
returns-clause-ran g c =
    let m = g.C.Circuit.meaning c.args.circuit.now in
    let r = scheme_rules (g.S.Growth.tables c.args.scheme.now) g.S.Scheme.LIMIT g.S.Scheme.FRESH in
    let out = (run_from r c.args.plan.now [] m.makings).levels in
    let p = right m (g.C.Circuit.laws c.args.circuit.now) r c.args.plan.now in
    (search rules, (out, (p.0, (subst (λ a. Told m r out a) (sym c.run.ensures.answer) p.1, c.run.ensures.memory))))
