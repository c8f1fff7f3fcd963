use Rattle.std.proofs.Common.{[], ◌∷◌, sym, subst}
use Rattle.std.proofs.lemmas.Bool.{cond-true, cond-false, eq-eqb, ne_eqb}
use Rattle.writing.specs.Pages.{Puts}
use Rattle.writing.specs.declared.page.Page.{Page}
use Rattle.writing.proofs.Pages.{puts_join, puts_same}
use Rattle.writing.proofs.page.Page.put_width.Goals as goal
use Rattle.writing.proofs.page.Page.put_width.Goals.{then-n-eq0, else-n-eq0}

pub returns : goal.returns
returns c =
    let end = λ (p : Page). Puts p (10 ∷ []) c.put_byte.new.self in
    elim c.if-n-eq0.branch [
      | then-n-eq0 w ↦ puts_same (sym (cond-true _ _ _ (eq-eqb c.args.n 0 w.if-n-eq0.true))) (puts_join w.put_number.ensures (subst end w.self-is c.put_byte.ensures))
      | else-n-eq0 w ↦ puts_same (sym (cond-false _ _ _ (ne_eqb c.args.n 0 w.if-n-eq0.false))) (puts_join w.put_number-else-n-eq0.ensures (puts_join w.put_spaced.ensures (subst end w.self-is c.put_byte.ensures)))
    ]
