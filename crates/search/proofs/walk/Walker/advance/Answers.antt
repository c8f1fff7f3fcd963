use Rattle.std.proofs.Common.{◌+◌, ◌-◌, set, get_or, take, refl, ap, ap₂, ◌∙◌, subst}
use Rattle.search.specs.Rows.{stacked}
use Rattle.search.specs.Walks.{Opens}
use Rattle.search.specs.Walks.Turned.{stepped}
use Rattle.search.proofs.walk.Walker.advance.Goals as goal

pub returns-in-Some : goal.returns-in-Some
returns-in-Some g c =
    let lists = (g.G.Graph.meaning c.args.self.now.graph.now).steps (take c.args.self.now.base c.args.memory.now) in
    let base = c.args.self.now.base in
    let n = c.args.self.now.count in
    let m = c.args.memory.now in
    let s = c.in-Some.step in
    let top = stacked base n m (c.args.height - 1) in
    let is = c.top-top.ensures in
    stepped s.number s.to
    (subst (λ k. Opens lists base m top (get_or m k 0) s.number s.to) (c.tried.ensures ∙ ap (λ p. base + n + n + p) is)
    (subst (λ p. Opens lists base m p (get_or m c.tried.result 0) s.number s.to) (c.place.ensures ∙ is) c.in-Some.ensures))
    (ap₂ (λ x k. set x k (s.number + 1)) c.push.ensures (c.tried-in-Some.ensures ∙ ap (λ p. base + n + n + p) is))
    refl
