use Rattle.std.proofs.Common.{ap}
use Rattle.std.proofs.Math.Seq.{map-set_same}
use Rattle.blocks.specs.declared.basic_block.BasicBlock.{BasicBlock}
use Rattle.blocks.proofs.basic_blocks.BasicBlocks.push_instruction_to.Goals as goal

pub returns-then-eq-clause-marks : goal.returns-then-eq-clause-marks
returns-then-eq-clause-marks c =
    let mark : BasicBlock → _ = λ x. x.unreachable in
    map-set_same mark c.args.self.now.items.items c.args.block _ c.index_mut.result.now (ap mark c.index_mut.ensures.value)
