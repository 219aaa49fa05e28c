use Rattle.std.proofs.Common.{rules}
use Rattle.book.specs.Book.{resolved, resolved_upper, resolve_refusal, counts_of}
use Rattle.builder.proofs.Forwards.{refused}
use Rattle.builder.specs.View.{book_of}
use Rattle.builder.proofs.builder.ControlFlowGraphBuilder.resolve_with_upper_label.Goals as goal

pub returns-in_err-counts : goal.returns-in_err-counts
returns-in_err-counts c =
    let k = book_of c.args.self.now in
    let f = c.in_err-counts.ensures.follows in
    record {
      book = refused (resolve_refusal k) (counts_of k) c.in_err-counts.field-0.0 k (book_of c.resolve.new.self) (resolved k) (resolved_upper k) f.answer
          f.book;
      answer = search (rules, f.answer);
    }
