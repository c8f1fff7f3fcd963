use Rattle.std.proofs.Common.{◌<◌, arith, length-set}
use Rattle.search.proofs.Totals.{tally_room}
use Rattle.search.proofs.walk.Walker.push.Goals as goal

pub bounds-memory-stacked : goal.bounds-memory-stacked
bounds-memory-stacked g c =
    let b = c.args.self.now.base in
    let n = c.args.self.now.count in
    let short : c.args.height < n = omega (arith, c.requires.stack.count, tally_room b n c.args.memory.now c.args.place c.requires.inside c.requires.free) in
    simp length-set (omega (arith, c.requires.stack.room, c.stacked.ensures))
