-- The arm at which the search breaks off.
use Rattle.std.proofs.Common.{refl}
use Rattle.book.specs.Book.{counts_of}
use Rattle.book.specs.declared.reply.Reply.TheVariants.{Resolved}
use Rattle.calls.proofs.Replied.{applied}
use Rattle.calls.proofs.replay.dispatch.Goals as goal

pub returns-in-ResolveExpect : goal.returns-in-ResolveExpect
returns-in-ResolveExpect c =
    applied Resolved counts_of _ _ _ _ _ _ c.in-ResolveExpect.is refl c.resolve_expect.ensures c.told-in-ResolveExpect.ensures
