-- What a question about the built graph asks. Assumes nothing.
--
--   Deciding          how the loop query finds instructions true: those of a kind, or those of some nodes
--   GraphAsked        a question, with its numbers
--   evaluator_of e    what the evaluator e finds true
--   asked_of q        what the question q asks
use Rattle.std.specs.Prelude.{ℕ, List, vec_items}
use Rattle.graph_script.specs.declared.query.Evaluator.{Evaluator}
use Rattle.graph_script.specs.declared.query.Evaluator.TheVariants.{Kind, Nodes}
use Rattle.graph_script.specs.declared.query.GraphQuery.{GraphQuery}
use Rattle.graph_script.specs.declared.query.GraphQuery.TheVariants.{Blocks, Edges, Block, Outgoing, Incoming, IsInfiniteLoopStart, Tally}
use Rattle.kinds.specs.declared.block.InstructionKind.{InstructionKind}

pub data Deciding : Type 0 where
  of_kind : InstructionKind → Deciding
  of_nodes : List ℕ → Deciding

pub data GraphAsked : Type 0 where
  block_count : GraphAsked
  edge_count : GraphAsked
  contents : ℕ → GraphAsked
  leaving : ℕ → GraphAsked
  entering : ℕ → GraphAsked
  loop_start : ℕ → Deciding → GraphAsked
  tally : GraphAsked

abbrev pub evaluator_of : Evaluator → Deciding
evaluator_of (Kind k) = of_kind k
evaluator_of (Nodes ns) = of_nodes (vec_items ns)

abbrev pub asked_of : GraphQuery → GraphAsked
asked_of Blocks = block_count
asked_of Edges = edge_count
asked_of (Block b) = contents b
asked_of (Outgoing b) = leaving b
asked_of (Incoming b) = entering b
asked_of (IsInfiniteLoopStart b e) = loop_start b (evaluator_of e)
asked_of Tally = tally
