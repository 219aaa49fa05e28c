use Rattle.book.specs.Book.{new_book}
use Rattle.book.specs.Ledger.{new_ledger}
use Rattle.book.proofs.Kept.{law_new, law_run}
use Rattle.book.proofs.law.law_of_the_counts.Goals as goal

pub returns : goal.returns
returns c = λ text cs. law_run cs (new_book text) new_ledger (law_new text)
