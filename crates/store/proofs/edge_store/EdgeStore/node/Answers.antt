use Rattle.std.proofs.Common.{◌≡◌, get_or, sym, subst, rules}
use Rattle.store.specs.Edges.{HeadOf}
use Rattle.store.specs.Links.{toward}
use Rattle.store.specs.View.{edges_of}
use Rattle.store.specs.declared.link.Node.{Node}
use Rattle.store.proofs.Tables.{isolated_node, node_head}
use Rattle.store.proofs.edge_store.EdgeStore.node.Goals as goal

pub returns : goal.returns
returns c d =
    let s = c.args.self.now in
    let b = c.args.block in
    let e : c.unwrap_or.result ≡ get_or s.nodes.items b isolated_node = search rules in
    let H : Node → Type 0 = λ n. HeadOf d b (edges_of s) (toward d n.first) in
    subst H (sym e) (node_head d s b)
