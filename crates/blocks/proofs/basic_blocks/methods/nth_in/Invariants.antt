use Rattle.std.proofs.Common.{◌≡◌, drop}
use Rattle.std.specs.List.{slice_get}
use Rattle.blocks.specs.Blocks.{instructions_in}
use Rattle.blocks.proofs.basic_blocks.methods.nth_in.Given as goal

-- the instruction sought is that many further in what is left
abbrev pub invariant-loop-item : goal.invariant-loop-item
invariant-loop-item l =
    slice_get (instructions_in l.block l.items) l.index
    ≡ slice_get (instructions_in l.block (drop l.item-index l.items)) l.left
