use Rattle.std.proofs.Common.{sym, subst}
use Rattle.book.proofs.Kept.{law_step}
use Rattle.book.specs.Book.{Book}
use Rattle.book.specs.LawOfCounts.{Law}
use Rattle.book.specs.Ledger.{ledger_step}
use Rattle.builder.specs.View.{book_of}
use Rattle.calls.proofs.replay.apply.Goals as goal

pub returns : goal.returns
returns c =
    let k = book_of c.args.builder.now in
    record {
      book = c.dispatch.ensures.book;
      reply = c.dispatch.ensures.reply;
      law = λ l h. (let P : Book → Type 0 = λ z. Law z (ledger_step k c.args.call l) in
          subst P (sym c.dispatch.ensures.book) (law_step c.args.call k l h));
    }
