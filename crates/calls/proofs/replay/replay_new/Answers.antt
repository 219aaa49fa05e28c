use Rattle.std.proofs.Common.{◌≡◌, sym, subst, rules}
use Rattle.book.proofs.Kept.{law_run, law_new, law_different}
use Rattle.book.specs.Book.{Book, run, new_book}
use Rattle.book.specs.LawOfCounts.{Law}
use Rattle.book.specs.Ledger.{ledger_run, new_ledger}
use Rattle.builder.specs.View.{book_of}
use Rattle.calls.proofs.replay.replay_new.Goals as goal

pub returns-in_err-builder : goal.returns-in_err-builder
returns-in_err-builder c =
    let cs = c.args.calls.now in
    let k = new_book c.args.text.now in
    let l = law_run cs k new_ledger (law_new c.args.text.now) in
    record { book = search rules; law = search rules; different = law_different (run cs k) (ledger_run cs k new_ledger) l }

pub returns : goal.returns
returns c =
    let cs = c.args.calls.now in
    let k = new_book c.args.text.now in
    let l = law_run cs k new_ledger (law_new c.args.text.now) in
    let e : book_of c.replay.new.builder ≡ run cs k = search rules in
    let P : Book → Type 0 = λ z. Law z (ledger_run cs k new_ledger) in
    record { book = e; law = subst P (sym e) l; different = law_different (run cs k) (ledger_run cs k new_ledger) l }
