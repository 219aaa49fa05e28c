-- What a block builder stands for. Assumes nothing.
--
--   state_of b   its graph, current block and stacks
use Rattle.std.specs.Prelude.{vec_items}
use Rattle.block_builder.specs.BlockState.{BlockState}
use Rattle.block_builder.specs.declared.block_builder.BlockBuilder.{BlockBuilder}
use Rattle.blocks.specs.View.{graph_of}

abbrev pub state_of : BlockBuilder → BlockState
state_of b = record { graph = graph_of b.graph; current = b.current; harnesses = vec_items b.error_path; finalizers = vec_items b.finalizers }
