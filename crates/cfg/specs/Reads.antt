-- What a built graph answers when it is read. Assumes nothing.
--
--   mark_of b g            whether the block b is marked unreachable
--   instruction_of b k g   the instruction of the index k in the block b, if it has so many
use Rattle.std.specs.Prelude.{ℕ, Bool, false, Option, slice_index_or}
use Rattle.std.specs.List.{slice_get}
use Rattle.kinds.specs.declared.block.Instruction.{Instruction}
use Rattle.blocks.specs.Blocks.{GraphState, instructions_in}

abbrev pub mark_of : ℕ → GraphState → Bool
mark_of b g = slice_index_or g.marks b false

abbrev pub instruction_of : ℕ → ℕ → GraphState → Option Instruction
instruction_of b k g = slice_get (instructions_in b g.instructions) k
