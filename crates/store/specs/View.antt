-- What an edge store stands for. Assumes nothing.
--
--   nodes_of s   how many nodes it has
--   edges_of s   its edges, in the order made
--   left i       the edges that the iterator i is still to give
use Rattle.std.specs.Prelude.{ℕ, List, vec_items, vec_len}
use Rattle.kinds.specs.declared.edge.Edge.{Edge}
use Rattle.store.specs.Edges.{rest}
use Rattle.store.specs.Links.{edges_in}
use Rattle.store.specs.declared.edge_store.EdgeStore.{EdgeStore}
use Rattle.store.specs.declared.edges.Edges.{Edges}

abbrev pub nodes_of : EdgeStore → ℕ
nodes_of s = vec_len s.nodes

abbrev pub edges_of : EdgeStore → List Edge
edges_of s = edges_in (vec_items s.links)

abbrev pub left : Edges → List Edge
left i = rest i.direction (edges_of i.store.now) i.place
