use Rattle.std.proofs.Common.{◌-◌, sym, ap, ◌∙◌, rules}
use Rattle.plannings.specs.Ready.{opened_kept}
use Rattle.plannings.proofs.Barring.{wire_in, some_bar, unbar_done}
use Rattle.plannings.proofs.lent.Lent.unbar.Goals as goal

pub rebar-requires : goal.rebar-requires
rebar-requires c = wire_in c.args.self.now c.requires c.args.rank (sym c.if-not-is_produced.ensures)

pub overflow_sub-self : goal.overflow_sub-self
overflow_sub-self c =
    let l = wire_in c.args.self.now c.requires c.args.rank (sym c.if-not-is_produced.ensures) in
    let k = some_bar c.args.self.now c.requires c.args.rank l (sym c.if-not-is_barred.ensures) in
    search rules

pub returns : goal.returns
returns c =
    unbar_done c.args.self.now c.requires c.args.rank _ c.rebar.ensures.same (sym c.if-not-is_produced.ensures) (sym c.if-not-is_barred.ensures) c.rebar.ensures.emptied
    (c.opened-self.ensures ∙ ap (λ k. opened_kept (k.bars - 1)) c.rebar.ensures.kept)
