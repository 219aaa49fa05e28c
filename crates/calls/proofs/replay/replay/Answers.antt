use Rattle.std.proofs.Common.{◌≡◌, ◌≤◌, length, sym, ap, ◌∙◌, subst, arith}
use Rattle.std.proofs.lemmas.List.{drop_all}
use Rattle.book.proofs.Kept.{law_run}
use Rattle.book.specs.Book.{Book, run}
use Rattle.book.specs.LawOfCounts.{Law}
use Rattle.book.specs.Ledger.{ledger_run}
use Rattle.builder.specs.View.{book_of}
use Rattle.calls.proofs.replay.replay.Goals as goal

pub returns : goal.returns
returns c =
    let cs = c.args.calls.now in
    let k = book_of c.args.builder.now in
    let le : length cs ≤ c.loop-call.call-index = omega arith in
    let e : book_of c.loop-call.builder ≡ run cs k =
    ap (λ x. run x (book_of c.loop-call.builder)) (sym (drop_all c.loop-call.call-index cs le)) ∙ c.loop-call.invariant in
    record { book = e; law = λ l h. (let P : Book → Type 0 = λ z. Law z (ledger_run cs k l) in subst P (sym e) (law_run cs k l h)) }
