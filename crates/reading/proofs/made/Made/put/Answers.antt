use Rattle.std.proofs.Common.{◌≡◌, ◌+◌, ◌<◌, ◌++◌, ◌∷◌, [], length, take, set, subst, sym, arith}
use Rattle.circuits.specs.declared.making.Entry.{Entry}
use Rattle.reading.specs.Holds.{Keeps}
use Rattle.reading.proofs.Held.{keeps_more}
use Rattle.reading.proofs.made.Made.put.Goals as goal
use Rattle.reading.proofs.made.Made.put.Goals.{Start}

abbrev wire : Start → Entry
wire c = record { making = c.args.making; name = c.args.name }

more : (c : Start) → Keeps (c.args.self.now.count + 1) (set c.args.self.now.table.now c.args.self.now.count (wire c)) (set c.args.self.now.ranks.now c.args.name c.args.self.now.count) × (take (c.args.self.now.count + 1) (set c.args.self.now.table.now c.args.self.now.count (wire c)) ≡ take c.args.self.now.count c.args.self.now.table.now ++ wire c ∷ []) × (c.args.self.now.count < length c.args.self.now.table.now)
more c = keeps_more c.args.self.now.count c.args.self.now.table.now c.args.self.now.ranks.now c.args.self.now.keeps (wire c) c.requires.named c.requires.fresh

pub write-requires-clause-row : goal.write-requires-clause-row
write-requires-clause-row c = (more (goal.at.write-requires-clause-row c).Start).2

pub overflow_add-self : goal.overflow_add-self
overflow_add-self c = omega (arith, (more (goal.at.overflow_add-self c).Start).2, c.args.self.now.small)

pub invariant_of-self-clause-keeps : goal.invariant_of-self-clause-keeps
invariant_of-self-clause-keeps c =
    subst (λ l. Keeps (c.args.self.now.count + 1) l c.write.new.ranks) (sym c.write.ensures.table)
    (subst (λ l. Keeps (c.args.self.now.count + 1) (set c.args.self.now.table.now c.args.self.now.count (wire (goal.at.invariant_of-self-clause-keeps c).Start)) l) (sym c.write.ensures.ranks)
    (more (goal.at.invariant_of-self-clause-keeps c).Start).0)
