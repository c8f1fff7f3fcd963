use Rattle.std.proofs.Common.{◌≡◌, take, subst}
use Rattle.search.specs.Walks.{Hunted}
use Rattle.search.proofs.Hunts.{begins_at}
use Rattle.search.proofs.find.Goals as goal

pub returns : goal.returns
returns g c =
    let t = g.G.Graph.meaning c.args.graph.now in
    let w = c.in_ok-walker.walker in
    let m = c.args.memory.now in
    let (room, same) = c.in_ok-walker.ensures in (
      room,
      begins_at t w.base w.count m c.clear.new.memory c.hunt.new.memory (g.met.G.Graph.inside c.args.graph.now (take t.extent m))
          (subst (λ x. w.base ≡ (g.G.Graph.meaning x).extent) same w.lists) (subst (λ x. w.count ≡ (g.G.Graph.meaning x).many) same w.places)
          c.clear.ensures.kept c.clear.ensures.clear c.hunt.result
          (subst (λ x. Hunted (g.G.Graph.meaning x) w.base w.count c.clear.new.memory c.hunt.new.memory 0 c.hunt.result) same c.hunt.ensures),
    )
