use Rattle.std.proofs.Common.{length, ap, ◌∙◌}
use Rattle.std.proofs.lemmas.Result.{err_from_is_err_and}
use Rattle.tokens.specs.Headers.{line_start}
use Rattle.tokens.specs.Tokens.{token_at}
use Rattle.reading.specs.Texts.{close}
use Rattle.reading.specs.Memory.{wires_of}
use Rattle.reading.proofs.Bodies.{body_stops, body_ends, ranks_end}
use Rattle.reading.proofs.made.Made.body.Goals as goal

pub returns-in_err-gates-clause-result : goal.returns-in_err-gates-clause-result
returns-in_err-gates-clause-result c =
    let told = c.in_err-gates.ensures in
    let p = err_from_is_err_and c.from_residual.result c.from_residual.ensures.1 in
    rw (p.1, p.2) (body_stops c.args.cursor.now.text.now c.args.header c.args.cursor.now.at _ c.requires.rows _ c.requires.front _ told.result)

pub returns : goal.returns
returns c =
    let told = c.in_ok-gates.ensures in
    let text = c.args.cursor.now.text.now in
    let made = c.gates.new.self in
    let on = c.gates.new.cursor.at in
    let size = told.lasts.rows ∙ c.requires.rows in
    record {
      result = body_ends text c.args.header c.args.cursor.now.at _ c.requires.rows _ c.requires.front made.count on made.table.now told.result c.close.result c.close.ensures.all (c.close.ensures.result ∙ ap (λ r. close r.now (length made.table.now) (wires_of made) (token_at r.now (line_start r.now on))) told.text ∙ ap (λ w. close text w (wires_of made) (token_at text (line_start text on))) size);
      ranks = ranks_end c.args.header.wires made.count made.table.now made.ranks.now size made.keeps c.close.result c.close.ensures.all;
      lasts = told.lasts;
    }
