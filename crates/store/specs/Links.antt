-- How the store's two tables are tied together. Assumes nothing.
--
--   edges_in ls      the edges of a table of links, in the order made
--   toward d p       the one of the two values p that is for the direction d
--   Firsts d ns es   each node keeps the number of its newest edge in the direction d
--   Nexts d ls       each edge keeps the number of the newest of those made before it at the same block
--   Within d ns ls   every edge is at a node
use Rattle.std.specs.Prelude.{◌≡◌, ℕ, ◌<◌, List, map, length, get_or, take, slice_index_or}
use Rattle.std.specs.List.{All}
use Rattle.kinds.specs.declared.edge.Edge.{Edge}
use Rattle.store.specs.Edges.{block_at, newest}
use Rattle.store.specs.declared.direction.Direction.{Direction}
use Rattle.store.specs.declared.direction.Direction.TheVariants.{Outgoing, Incoming}
use Rattle.store.specs.declared.direction.PerDirection.{PerDirection}
use Rattle.store.specs.declared.link.Link.{Link}
use Rattle.store.specs.declared.link.Node.{Node}

abbrev pub edges_in : List Link → List Edge
edges_in ls = map (λ l. l.edge) ls

abbrev pub toward : {X : Type 0} → Direction → PerDirection X → X
toward Outgoing p = p.outgoing
toward Incoming p = p.incoming

abbrev pub Firsts : Direction → List Node → List Edge → Type 0
Firsts d ns es = (b : ℕ) (x : Node) → b < length ns → toward d (slice_index_or ns b x).first ≡ newest d b es

abbrev pub Nexts : Direction → List Link → Type 0
Nexts d ls =
    (k : ℕ) (x : Link) → k < length ls → toward d (get_or ls k x).next ≡ newest d (block_at d (get_or ls k x).edge) (take k (edges_in ls))

abbrev pub Within : Direction → List Node → List Link → Type 0
Within d ns ls = All (λ l. block_at d l.edge < length ns) ls
