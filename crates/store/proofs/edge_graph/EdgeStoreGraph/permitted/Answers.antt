use Rattle.std.proofs.Common.{rules}
use Rattle.std.proofs.lemmas.Iterator.{YieldsList}
use Rattle.std.proofs.lemmas.Iterator.Consumers.{YieldsList-from_first}
use Rattle.std.proofs.lemmas.Iterator.Search.{any_from_yields_List}
use Rattle.std.specs.Iterator.{YieldsFirst}
use Rattle.store.specs.Edges.{listed}
use Rattle.store.specs.Paths.{leads}
use Rattle.store.specs.View.{edges_of, left}
use Rattle.store.specs.declared.direction.Direction.TheVariants.{Outgoing}
use Rattle.store.proofs.edge_graph.EdgeStoreGraph.permitted.Goals as goal
use borrow.Author.Tests.{tests}

pub returns : goal.returns
returns c =
    let all = listed Outgoing c.args.from (edges_of c.args.self.now) in
    let road : YieldsList (YieldsFirst left) (λ e. e) c.edges.result all = YieldsList-from_first (λ e. e) left {s = c.edges.result} all c.edges.ensures in
    any_from_yields_List {steps = YieldsFirst left} {v = λ e. e} {s = c.edges.result} {all = all} (leads c.args.to) c.any.new.self _ c.any.result c.any.ensures.ran road (λ x b q k. search (rules, tests))
