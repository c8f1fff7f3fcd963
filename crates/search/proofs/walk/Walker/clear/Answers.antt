use Rattle.std.proofs.Common.{arith}
use Rattle.search.proofs.Writes.{cleared}
use Rattle.search.proofs.walk.Walker.clear.Goals as goal

pub returns-clause-kept : goal.returns-clause-kept
returns-clause-kept g c =
    (cleared c.args.self.now.base c.args.self.now.count c.args.memory.now c.mark.result c.mark-2.result c.fill.new.self c.requires (omega (arith, c.mark.ensures)) c.mark-2.ensures (c.fill.ensures.after (λ y e. e))).0

pub returns-clause-clear : goal.returns-clause-clear
returns-clause-clear g c =
    (cleared c.args.self.now.base c.args.self.now.count c.args.memory.now c.mark.result c.mark-2.result c.fill.new.self c.requires (omega (arith, c.mark.ensures)) c.mark-2.ensures (c.fill.ensures.after (λ y e. e))).1
