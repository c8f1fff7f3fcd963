use Rattle.std.proofs.Common.{take}
use Rattle.search.proofs.Dives.{began, going_from}
use Rattle.search.proofs.walk.Walker.dive.Goals as goal

pub loop-height-init : goal.loop-height-init
loop-height-init g c =
    let s = c.args.self.now in
    let t = g.G.Graph.meaning s.graph.now in
    let m = c.args.memory.now in
    let all = g.met.G.Graph.inside s.graph.now (take s.base m) in
    began t s.base s.count m c.args.place s.places all c.requires.inside c.push.new.memory c.requires.room c.requires.free c.requires.root c.push.ensures

pub loop-height-smaller : goal.loop-height-smaller
loop-height-smaller g c =
    let s = c.args.self.now in
    let t = g.G.Graph.meaning s.graph.now in
    let m = c.args.memory.now in
    let all = g.met.G.Graph.inside s.graph.now (take s.base m) in
    let l = c.loop-height in
    let o = going_from t s.base s.count m c.args.place s.places all c.requires.inside l.memory l.height c.advance-height.new.memory c.advance-height.result l.invariant.0 l.invariant.1 l.invariant.2 c.loop-height-test.true c.if-at_goal.ensures c.advance-height.ensures in
    o.3

pub loop-height-preserved : goal.loop-height-preserved
loop-height-preserved g c =
    let s = c.args.self.now in
    let t = g.G.Graph.meaning s.graph.now in
    let m = c.args.memory.now in
    let all = g.met.G.Graph.inside s.graph.now (take s.base m) in
    let l = c.loop-height in
    let o = going_from t s.base s.count m c.args.place s.places all c.requires.inside l.memory l.height c.advance-height.new.memory c.advance-height.result l.invariant.0 l.invariant.1 l.invariant.2 c.loop-height-test.true c.if-at_goal.ensures c.advance-height.ensures in
    (o.0, o.1, o.2)
