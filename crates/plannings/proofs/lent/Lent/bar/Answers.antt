use Rattle.std.proofs.Common.{◌+◌, sym, ap, ◌∙◌, rules}
use Rattle.plannings.specs.Ready.{opened_kept}
use Rattle.plannings.proofs.Barring.{wire_in, bars_few, bar_done}
use Rattle.plannings.proofs.lent.Lent.bar.Goals as goal

pub rebar-requires : goal.rebar-requires
rebar-requires c = wire_in c.args.self.now c.requires c.args.rank (sym c.if-not-is_produced.ensures)

pub overflow_add-self : goal.overflow_add-self
overflow_add-self c =
    let k = bars_few c.args.self.now c.requires c.args.rank in
    search rules

pub returns : goal.returns
returns c =
    bar_done c.args.self.now c.requires c.args.rank _ c.rebar.ensures.same (sym c.if-not-is_produced.ensures) (sym c.if-is_barred.ensures) c.rebar.ensures.emptied
    (c.opened-self.ensures ∙ ap (λ k. opened_kept (k.bars + 1)) c.rebar.ensures.kept)
