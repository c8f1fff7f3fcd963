use Rattle.std.proofs.Common.{◌≡◌, ap, ◌∙◌, arith, rules}
use Rattle.writing.specs.Pages.{kept}
use Rattle.writing.specs.Writes.{left}
use Rattle.writing.proofs.Pages.{kept_front}
use Rattle.writing.proofs.text.write_text.Goals as goal

pub returns-clause-room : goal.returns-clause-room
returns-clause-room g c =
    let bytes = g.T.Text.bytes c.args.text.now in
    let room = c.args.room.now in
    let written : c.put.new.page.out.now ≡ left bytes room =
    c.put.ensures.keeps ∙ ap (λ at. kept c.new-page.result.out.now at bytes) c.new-page.ensures.at ∙ ap (λ out. kept out 0 bytes) c.new-page.ensures.out
    ∙ kept_front bytes room (omega (arith, c.if-len-room.false, c.measure-len.ensures)) (omega arith) in
    search (rules, written)
