-- A row of the block is the one sought, or one fewer is to come; any other is passed over.
use Rattle.std.proofs.Common.{◌≡◌, suc, drop, sym, ap, ◌∙◌, arith}
use Rattle.std.specs.List.{slice_get}
use Rattle.blocks.specs.Blocks.{instructions_in}
use Rattle.blocks.proofs.Seeking.{row_here, row_elsewhere, none_left}
use Rattle.blocks.proofs.basic_blocks.methods.nth_in.Goals as goal
use Rattle.blocks.proofs.basic_blocks.methods.nth_in.Goals.{then-item-block+else-left-eq0, else-item-block}

pub returns-then-left-eq0 : goal.returns-then-left-eq0
returns-then-left-eq0 c =
    let xs = c.args.items.now in
    let i = c.loop-item.item-index in
    let b = c.args.block in
    sym (c.loop-item.invariant
    ∙ ap (slice_get (instructions_in b (drop i xs))) c.if-left-eq0.true
    ∙ ap (λ l. slice_get l 0) (row_here xs i b _ c.loop-item-test.true c.if-item-block.true))

pub loop-item-preserved : goal.loop-item-preserved
loop-item-preserved c =
    let xs = c.args.items.now in
    let i = c.loop-item.item-index in
    let b = c.args.block in
    elim c.if-item-block.branch [
      | then-item-block+else-left-eq0 w ↦
          let more : c.loop-item.left ≡ suc c.if-item-block.left = omega (arith, w.left-is, w.if-left-eq0.false) in
          c.loop-item.invariant
          ∙ ap (slice_get (instructions_in b (drop i xs))) more
          ∙ ap (λ l. slice_get l (suc c.if-item-block.left)) (row_here xs i b _ c.loop-item-test.true w.if-item-block.true)
      | else-item-block w ↦
          c.loop-item.invariant
          ∙ ap (slice_get (instructions_in b (drop i xs))) (sym w.left-is)
          ∙ ap (λ l. slice_get l c.if-item-block.left) (row_elsewhere xs i b _ c.loop-item-test.true w.if-item-block.false)
    ]

pub returns : goal.returns
returns c =
    sym (c.loop-item.invariant ∙ none_left c.args.items.now c.loop-item.item-index c.args.block c.loop-item.left c.loop-item-test.false)
