use Rattle.std.proofs.Common.{◌<◌, length, arith}
use Rattle.blocks.proofs.Highest.{highest_at}
use Rattle.contexts.specs.Tables.{above_block}
use Rattle.contexts.specs.declared.ctx.WaitingEntry.{WaitingEntry}
use Rattle.kinds.specs.declared.context.EntryKind.TheVariants.{Break}
use Rattle.contexts.proofs.ctx_stack.entries.draw.Goals as goal

abbrev D : WaitingEntry
D = record { context = 0; kind = Break; block = 0 }

pub draw_one-requires-clause-block : goal.draw_one-requires-clause-block
draw_one-requires-clause-block c =
    let ws = c.args.waiting.now in
    let i = c.loop-entry.entry-index in
    let lt : i < length ws = omega arith in
    let h = c.loop-entry.invariant.1 in
    omega (arith, highest_at above_block ws i D lt, h.marks)
