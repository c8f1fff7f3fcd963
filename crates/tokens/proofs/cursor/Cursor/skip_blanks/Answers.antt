use Rattle.std.proofs.Common.{rules}
use Rattle.tokens.specs.Places.{blank}
use Rattle.tokens.proofs.Scan.{blank_inside}
use Rattle.tokens.proofs.Moves.{onward}
use Rattle.tokens.proofs.cursor.Cursor.skip_blanks.Goals as goal

pub invariant_of-self-clause-counted : goal.invariant_of-self-clause-counted
invariant_of-self-clause-counted c = (onward c.args.self.now blank blank_inside _ (c.run_len.ensures.run blank (λ b r e. search rules))).same
