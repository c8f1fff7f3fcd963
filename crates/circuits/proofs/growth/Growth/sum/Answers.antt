use Rattle.std.proofs.Common.{sym, ◌∙◌}
use Rattle.circuits.proofs.growth.Growth.sum.Goals as goal

pub returns : goal.returns
returns g c = c.max.ensures ∙ sym ((g.met.Self.Growth.grows c.args.self.now).sum_larger c.args.a c.args.b c.requires.first c.requires.second)
