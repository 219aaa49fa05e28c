-- A call of the builder, applied. Assumes nothing.
--
--   Applied c k t r   the call c on the book k leaves t and replies r, as the book says
use Rattle.std.specs.Prelude.{◌≡◌}
use Rattle.book.specs.Book.{Book, step, answer}
use Rattle.book.specs.declared.call.Call.{Call}
use Rattle.book.specs.declared.reply.Reply.{Reply}

pub record Applied (c : Call) (k t : Book) (r : Reply) : Type 0 where
  pub book : t ≡ step k c
  pub reply : r ≡ answer k c
