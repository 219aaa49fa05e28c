-- A start is opened with no block open, and the loops lead on.
use Rattle.search.proofs.Exploring.{starting}
use Rattle.search.proofs.explore.Search.open_start.Goals as goal

pub returns-in_err-open-clause-explores : goal.returns-in_err-open-clause-explores
returns-in_err-open-clause-explores g c =
    let G = g.G.Graph.meaning c.args.self.now.graph.now in
    let rest = g.G.Graph.rest c.args.self.now.graph.now in
    λ s rests.
    rw c.from_residual.ensures
    (c.in_err-open.ensures.opens _ c.requires.block c.requires.new (starting g.V.Visitor.meaning G rest c.args.start rests))

pub explore-requires-clause-unread : goal.explore-requires-clause-unread
explore-requires-clause-unread g c =
    let G = g.G.Graph.meaning c.args.self.now.graph.now in
    let rest = g.G.Graph.rest c.args.self.now.graph.now in
    (_, c.in_ok-open.ensures.opens _ c.requires.block c.requires.new (starting g.V.Visitor.meaning G rest c.args.start c.requires.rests.1))

pub returns-clause-explores : goal.returns-clause-explores
returns-clause-explores g c =
    let G = g.G.Graph.meaning c.args.self.now.graph.now in
    let rest = g.G.Graph.rest c.args.self.now.graph.now in
    λ s rests.
    c.explore.ensures.explores _
    (c.in_ok-open.ensures.opens _ c.requires.block c.requires.new (starting g.V.Visitor.meaning G rest c.args.start rests))
