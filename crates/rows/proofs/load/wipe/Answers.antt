use Rattle.std.proofs.Common.{replicate, ap, ◌∙◌}
use Rattle.rows.proofs.Cells.{wiped_part, part_long}
use Rattle.rows.proofs.load.wipe.Goals as goal

pub returns : goal.returns
returns c =
    wiped_part c.args.memory.now c.fill.new.self c.args.from c.args.to c.requires.order c.requires.within
    (c.fill.ensures.after (λ y e. e) ∙ ap (λ k. replicate k 0) (part_long c.args.memory.now c.args.from c.args.to c.requires.order c.requires.within))
