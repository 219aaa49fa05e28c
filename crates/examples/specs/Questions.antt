-- What the examples ask of a builder's book, as it stands after some calls. Assumes nothing.
--
--   refusal_number r    the number of the refusal that the reply r tells; none where the call was accepted
--   blocks_in k         how many blocks there are
--   edges_in k          the edges, in the order made
--   contents k b        the instructions of the block b, in their order
--   is_marked k b       whether the block b is marked unreachable
--   graph_in k          the blocks and the edges as a graph
--   reaches k a b       whether b is reached from a, where the filter passes all
--   has_cycle k u       whether u lies on a cycle
--   prunes_nothing      the visitor that replies Continue to every event
--   events_from k u     what a walk from u reports to it, in order
use Rattle.std.specs.Prelude.{ℕ, Bool, false, List, [], ◌∷◌, map, reverse, Some, None, Option, slice_index_or}
use Rattle.block_builder.specs.BlockState.{block_count}
use Rattle.blocks.specs.Blocks.{instructions_in}
use Rattle.book.specs.Book.{Book}
use Rattle.book.specs.declared.reply.Reply.{Reply}
use Rattle.book.specs.declared.reply.Reply.TheVariants.{Refused, Done, Block, Found, Resolved, Tallied}
use Rattle.graph.specs.Meaning.{Meaning}
use Rattle.kinds.specs.Numbers.{number_of}
use Rattle.kinds.specs.declared.block.Instruction.{Instruction}
use Rattle.kinds.specs.declared.edge.Edge.{Edge}
use Rattle.store.specs.Paths.{as_graph}
use Rattle.walk.specs.Cycle.{cyclic}
use Rattle.walk.specs.Reach.{reachable}
use Rattle.walk.specs.Walk.{Visitor, walk}
use Rattle.walk.specs.declared.event.Control.TheVariants.{Continue}
use Rattle.walk.specs.declared.event.DfsEvent.{DfsEvent}

abbrev pub refusal_number : Reply → Option ℕ
refusal_number (Refused r) = Some (number_of r)
refusal_number Done = None
refusal_number (Block b) = None
refusal_number (Found f) = None
refusal_number (Resolved n) = None
refusal_number (Tallied t) = None

abbrev pub blocks_in : Book → ℕ
blocks_in k = block_count k.blocks

abbrev pub edges_in : Book → List Edge
edges_in k = k.blocks.graph.edges

abbrev pub contents : Book → ℕ → List Instruction
contents k b = instructions_in b k.blocks.graph.instructions

abbrev pub is_marked : Book → ℕ → Bool
is_marked k b = slice_index_or k.blocks.graph.marks b false

abbrev pub graph_in : Book → Meaning
graph_in k = as_graph (blocks_in k) (edges_in k)

abbrev pub reaches : Book → ℕ → ℕ → Bool
reaches k a b = reachable (graph_in k) (λ _. Continue) a b

abbrev pub has_cycle : Book → ℕ → Bool
has_cycle k u = cyclic (graph_in k) u

abbrev pub prunes_nothing : Visitor (Unit {0}) (Unit {0})
prunes_nothing = record { reply = λ _ _. Continue; next = λ s _. s }

abbrev pub events_from : Book → ℕ → List DfsEvent
events_from k u = map (λ r. r.event) (reverse (walk prunes_nothing (graph_in k) (u ∷ []) tt).log)
