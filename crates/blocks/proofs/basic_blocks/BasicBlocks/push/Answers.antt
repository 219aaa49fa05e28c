use Rattle.std.proofs.Common.{List, sym, refl, subst}
use Rattle.blocks.specs.Tables.{Flagged}
use Rattle.blocks.specs.declared.basic_block.BasicBlock.{BasicBlock}
use Rattle.blocks.proofs.Marks.{flagged_block}
use Rattle.blocks.proofs.basic_blocks.BasicBlocks.push.Goals as goal

pub invariant_of-self-clause-flagged : goal.invariant_of-self-clause-flagged
invariant_of-self-clause-flagged c =
    let t = c.args.self.now in
    let F : List BasicBlock → Type 0 = λ x. Flagged x t.instructions.items in
    subst F (sym c.push_reserved.ensures.items) (flagged_block t.items.items t.instructions.items _ refl t.inside t.flagged)
