use Rattle.std.proofs.Common.{rules, leb, ap, ◌∙◌}
use Rattle.runs.specs.Calls.{rooms}
use Rattle.runs.proofs.Enough.{enough_from_try_fold}
use Rattle.runs.proofs.run.enough.Goals as goal

pub returns : goal.returns
returns c =
    c.is_some.ensures
    ∙ enough_from_try_fold _ _ _ _ _ _ c.try_fold.ensures.ran (λ k x v q h. search rules)
    ∙ ap (λ xs. leb (rooms xs) c.args.numbers) c.iter.ensures.rest
