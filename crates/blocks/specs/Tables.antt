-- How the tables of blocks and of instructions are tied together. Assumes nothing.
--
--   Flagged bs is   each block's flag says whether it holds an Unreachable instruction
--   Inside bs is    every instruction is in a block
use Rattle.std.specs.Prelude.{◌≡◌, ℕ, ◌<◌, List, length, slice_index_or}
use Rattle.std.specs.List.{All}
use Rattle.blocks.specs.Blocks.{holds_unreachable}
use Rattle.blocks.specs.declared.basic_block.BasicBlock.{BasicBlock}
use Rattle.blocks.specs.declared.basic_block.BlockInstruction.{BlockInstruction}

abbrev pub Flagged : List BasicBlock → List BlockInstruction → Type 0
Flagged bs is = (b : ℕ) (x : BasicBlock) → b < length bs → (slice_index_or bs b x).holds_unreachable ≡ holds_unreachable b is

abbrev pub Inside : List BasicBlock → List BlockInstruction → Type 0
Inside bs is = All (λ i. i.block < length bs) is
