use Rattle.std.proofs.Common.{◌≡◌, ◌∙◌, ap, Bool, rules, tests, Bor}
use Rattle.std.specs.List.{find}
use Rattle.std.specs.Option.{option_map}
use Rattle.std.specs.Str.{bytes_eq}
use Rattle.std.proofs.lemmas.Iterator.{YieldsList-from_slice}
use Rattle.std.proofs.lemmas.Iterator.Search.{find_from_yields_List}
use Rattle.tokens.specs.declared.gate.Row.{Row}
use Rattle.tokens.proofs.Rows.{looked_up}
use Rattle.tokens.proofs.gate.find_row.Goals as goal

pub returns : goal.returns
returns c =
    let test : Row → Bool = λ r. bytes_eq r.word.now c.args.word.now in
    let found : option_map (λ (b : Bor Row). b.now) c.find.result ≡ find test c.args.rows.now = find_from_yields_List test _ _ c.find.result c.find.ensures.ran (YieldsList-from_slice _ (search rules)) (λ x b q k. search (rules, tests)) in
    let mapped : c.map.result ≡ option_map (λ (r : Row). r.rule) (option_map (λ (b : Bor Row). b.now) c.find.result) = search rules in
    mapped ∙ ap (option_map (λ (r : Row). r.rule)) found ∙ looked_up c.args.word.now c.args.rows.now
