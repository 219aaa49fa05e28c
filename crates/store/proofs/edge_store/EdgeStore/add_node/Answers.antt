use Rattle.std.proofs.Common.{List, sym, subst}
use Rattle.store.specs.Links.{edges_in, Firsts, Within}
use Rattle.store.specs.declared.link.Node.{Node}
use Rattle.store.proofs.Linking.{firsts_node, within_node}
use Rattle.store.proofs.Tables.{isolated}
use Rattle.store.proofs.edge_store.EdgeStore.add_node.Goals as goal

pub invariant_of-self-clause-firsts : goal.invariant_of-self-clause-firsts
invariant_of-self-clause-firsts c d =
    let s = c.args.self.now in
    let F : List Node → Type 0 = λ x. Firsts d x (edges_in s.links.items) in
    subst F (sym c.push_reserved.ensures.items) (firsts_node d s.nodes.items s.links.items _ (isolated d) (s.within d) (s.firsts d))

pub invariant_of-self-clause-within : goal.invariant_of-self-clause-within
invariant_of-self-clause-within c d =
    let s = c.args.self.now in
    let W : List Node → Type 0 = λ x. Within d x s.links.items in
    subst W (sym c.push_reserved.ensures.items) (within_node d s.nodes.items s.links.items _ (s.within d))
