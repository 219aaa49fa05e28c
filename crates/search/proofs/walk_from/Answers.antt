-- No block is discovered yet.
use Rattle.std.proofs.Common.{length, refl, ap, arith}
use Rattle.search.proofs.Starting.{at_rest_first}
use Rattle.search.proofs.walk_from.Goals as goal

pub run-requires-clause-rests : goal.run-requires-clause-rests
run-requires-clause-rests g c =
    let room = c.requires.room in
    let slots = ap length c.new-stack.ensures.slots in
    at_rest_first g.V.Visitor.meaning (g.G.Graph.meaning c.args.graph.now) _ (omega arith) c.new-stack.ensures.empty c.requires.clean refl
