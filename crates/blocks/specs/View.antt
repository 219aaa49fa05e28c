-- What a graph of blocks stands for. Assumes nothing.
--
--   graph_of g   its blocks, instructions and edges
use Rattle.store.specs.View.{edges_of}
use Rattle.blocks.specs.Blocks.{GraphState}
use Rattle.blocks.specs.TablesView.{marks_of, instructions_of}
use Rattle.blocks.specs.declared.block_graph.BlockGraph.{BlockGraph}

abbrev pub graph_of : BlockGraph → GraphState
graph_of g = record { marks = marks_of g.basic_blocks; instructions = instructions_of g.basic_blocks; edges = edges_of g.store }
