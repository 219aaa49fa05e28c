-- What a built graph stands for. Assumes nothing.
--
--   graph_of g   its blocks, instructions and edges
use Rattle.blocks.specs.Blocks.{GraphState}
use Rattle.blocks.specs.View as blocks
use Rattle.cfg.specs.declared.control_flow_graph.ControlFlowGraph.{ControlFlowGraph}

abbrev pub graph_of : ControlFlowGraph → GraphState
graph_of g = blocks.graph_of g.blocks
