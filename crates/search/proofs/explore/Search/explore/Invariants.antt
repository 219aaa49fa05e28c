-- Wherever the walk was bound for at the call, it is bound for still.
use Rattle.std.proofs.Common.{◌≡◌, ◌-◌, ◌*◌, ◌∷◌, length}
use Rattle.visit.specs.OpenFrames.{stacked}
use Rattle.search.proofs.Exploring.{Along}
use Rattle.search.proofs.explore.Search.explore.Given as goal

abbrev pub invariant-frames : goal.invariant-frames
invariant-frames g l =
    let rest = g.G.Graph.rest l.graph in
    Along g.V.Visitor.meaning (g.G.Graph.meaning l.graph) rest l.fn.self l.self (stacked rest l.self.stack.now)

abbrev pub decreases-frames : goal.decreases-frames
decreases-frames g l = 2 * (g.G.Graph.meaning l.graph).size - l.self.time

abbrev pub invariant-neighbors : goal.invariant-neighbors
invariant-neighbors g l =
    let rest = g.G.Graph.rest l.graph in
    Along g.V.Visitor.meaning (g.G.Graph.meaning l.graph) rest l.fn.self l.self (record { block = l.u; rest = rest l.place } ∷ stacked rest l.self.stack.now)
    × (l.self.time ≡ l.initial.self.time)

abbrev pub decreases-neighbors : goal.decreases-neighbors
decreases-neighbors g l = length (g.G.Graph.rest l.graph l.place)
