-- The text of the builder's replies. Assumes nothing.
--
--   counts_written n   the counts of a resolve; none where no context was open
--   tally_written t    the five counts
--   reply_written r    any reply
use Rattle.std.specs.Prelude.{ℕ, cond, List, ◌++◌, Some, None, codes, decimal, Option}
use Rattle.book.specs.declared.reply.Reply.{Reply}
use Rattle.book.specs.declared.reply.Reply.TheVariants.{Refused, Done, Block, Found, Resolved, Tallied}
use Rattle.book.specs.declared.reply.Tally.{Tally}
use Rattle.kinds.specs.Numbers.{written}

abbrev pub counts_written : Option (ℕ × ℕ) → List ℕ
counts_written None = codes "none"
counts_written (Some n) = codes "drawn " ++ (decimal n.0 ++ (codes " untargeted " ++ decimal n.1))

abbrev pub tally_written : Tally → List ℕ
tally_written t =
    codes "given " ++ (decimal t.given
    ++ (codes " unfiled " ++ (decimal t.unfiled
    ++ (codes " waiting " ++ (decimal t.waiting
    ++ (codes " drawn " ++ (decimal t.drawn
    ++ (codes " untargeted " ++ decimal t.untargeted))))))))

abbrev pub reply_written : Reply → List ℕ
reply_written (Refused r) = codes "refused " ++ written r
reply_written Done = codes "ok"
reply_written (Block b) = codes "block " ++ decimal b
reply_written (Found f) = cond f (codes "found") (codes "none")
reply_written (Resolved n) = counts_written n
reply_written (Tallied t) = tally_written t
