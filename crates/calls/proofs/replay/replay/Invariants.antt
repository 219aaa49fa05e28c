use Rattle.std.proofs.Common.{◌≡◌, drop}
use Rattle.book.specs.Book.{run}
use Rattle.builder.specs.View.{book_of}
use Rattle.calls.proofs.replay.replay.Given as goal

abbrev pub invariant-loop-call : goal.invariant-loop-call
invariant-loop-call l = run (drop l.call-index l.calls) (book_of l.builder) ≡ run l.calls (book_of l.initial.builder)
