use Rattle.std.proofs.Common.{◌≡◌, take, count_by}
use Rattle.blocks.specs.Blocks.{Grown}
use Rattle.blocks.specs.View.{graph_of}
use Rattle.contexts.specs.Tables.{draws, all_drawn}
use Rattle.contexts.proofs.ctx_stack.entries.draw.Given as goal

abbrev pub invariant-loop-entry : goal.invariant-loop-entry
invariant-loop-entry l = (graph_of l.graph ≡ all_drawn l.top.number l.top.ctx (take l.entry-index l.waiting) (graph_of l.initial.graph))
    × Grown 0 (count_by (draws l.top.number l.top.ctx) (take l.entry-index l.waiting)) 0 (graph_of l.initial.graph) (graph_of l.graph)
