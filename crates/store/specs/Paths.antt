-- What an edge store means as a graph. Assumes nothing.
--
--   passable k      whether a step along an edge of the kind k is permitted: it is neither NewFunction nor Unreachable
--   leads b e       whether the edge e leads to the block b, and its kind is passable
--   targets es      the targets of the edges es, in their order
--   as_graph n es   n blocks and the edges es as a graph: a block lists the targets of its outgoing edges, newest first; a step is
--                   permitted where one of the edges from the block to that neighbour is passable
--   meaning_of s    the store as a graph
use Rattle.std.specs.Prelude.{ℕ, Bool, true, false, ◌&&◌, List, map, ◌==◌}
use Rattle.std.specs.List.{list_any}
use Rattle.graph.specs.Meaning.{Meaning}
use Rattle.kinds.specs.declared.edge.Edge.{Edge}
use Rattle.kinds.specs.declared.edge.EdgeType.{EdgeType}
use Rattle.kinds.specs.declared.edge.EdgeType.TheVariants.{Jump, Normal, Backedge, NewFunction, Finalize, Error, Unreachable, Join}
use Rattle.store.specs.Edges.{listed}
use Rattle.store.specs.View.{nodes_of, edges_of}
use Rattle.store.specs.declared.direction.Direction.TheVariants.{Outgoing}
use Rattle.store.specs.declared.edge_store.EdgeStore.{EdgeStore}

abbrev pub passable : EdgeType → Bool
passable Jump = true
passable Normal = true
passable Backedge = true
passable NewFunction = false
passable Finalize = true
passable (Error e) = true
passable Unreachable = false
passable Join = true

abbrev pub leads : ℕ → Edge → Bool
leads b e = e.target == b && passable e.kind

abbrev pub targets : List Edge → List ℕ
targets es = map (λ e. e.target) es

abbrev pub as_graph : ℕ → List Edge → Meaning
as_graph n es = record {
  size = n;
  neighbors = λ a. targets (listed Outgoing a es);
  permitted = λ a b. list_any (leads b) (listed Outgoing a es);
}

abbrev pub meaning_of : EdgeStore → Meaning
meaning_of s = as_graph (nodes_of s) (edges_of s)
