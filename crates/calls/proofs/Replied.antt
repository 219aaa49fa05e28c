-- A method that follows the book, its result told as a reply.
use Rattle.std.proofs.Common.{◌≡◌, Some, None, Option, Result, sym, ap, ◌∙◌}
use Rattle.std.specs.Result.{MatchResult}
use Rattle.book.specs.Book.{Book, Follows, refusal, reply, replied, step, answer}
use Rattle.book.specs.declared.call.Call.{Call}
use Rattle.book.specs.declared.reply.Reply.{Reply}
use Rattle.book.specs.declared.reply.Reply.TheVariants.{Refused}
use Rattle.calls.specs.Results.{Applied}
use Rattle.kinds.specs.Replies.{told}
use Rattle.kinds.specs.declared.refusal.Refusal.{Refusal}

tells : {A : Type 0} (f : A → Reply) (why : Option Refusal) (x : A) (r : Reply)
    → MatchResult (told why x) (λ y. r ≡ f y) (λ e. r ≡ Refused e) → r ≡ replied why (f x)
tells f None x r h = h
tells f (Some e) x r h = h

-- c is the call d; the method m of d gives x where it is not refused
pub applied : {A : Type 0} (f : A → Reply) (x : Book → A) (c d : Call) (k t : Book) (m : Result A Refusal) (r : Reply)
    → c ≡ d → reply k d ≡ f (x k) → Follows d x k t m → MatchResult m (λ y. r ≡ f y) (λ e. r ≡ Refused e) → Applied c k t r
applied f x c d k t m r e q h a = record {
  book = h.book ∙ ap (step k) (sym e);
  reply =
      tells f (refusal k d) (x k) r (rw (sym h.answer) a) ∙ ap (replied (refusal k d)) (sym q) ∙ ap (answer k) (sym e);
}
