-- What the tables of blocks and of instructions stand for. Assumes nothing.
--
--   marks_in bs         the marks of a list of blocks
--   marks_of t          for each block of the tables, whether it is marked unreachable
--   instructions_of t   the instructions with their blocks, in the order made
use Rattle.std.specs.Prelude.{Bool, List, map, vec_items}
use Rattle.blocks.specs.declared.basic_block.BasicBlock.{BasicBlock}
use Rattle.blocks.specs.declared.basic_block.BlockInstruction.{BlockInstruction}
use Rattle.blocks.specs.declared.basic_blocks.BasicBlocks.{BasicBlocks}

abbrev pub marks_in : List BasicBlock → List Bool
marks_in bs = map (λ b. b.unreachable) bs

abbrev pub marks_of : BasicBlocks → List Bool
marks_of t = marks_in (vec_items t.items)

abbrev pub instructions_of : BasicBlocks → List BlockInstruction
instructions_of t = vec_items t.instructions
