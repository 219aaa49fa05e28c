-- Before each start no block is open, and the walk is bound for its own end.
use Rattle.walk.specs.Walk.{walk}
use Rattle.search.specs.Kept.{Kept}
use Rattle.search.proofs.Starting.{Bound}
use Rattle.search.proofs.explore.Search.run.Given as goal

abbrev pub invariant-loop-start : goal.invariant-loop-start
invariant-loop-start g l =
    let V = g.V.Visitor.meaning in
    let G = g.G.Graph.meaning l.initial.self.graph.now in
    Kept l.initial.self l.self × Bound V G l.starts l.self l.start-index (walk V G l.starts l.initial.self.visitor.now)
