-- What a walk refuses, row by row from the top. Assumes nothing.
--
--   no_block n us            one of us is no block of n
--   dirty marks              one of the marks is not 0
--   refused n us marks room  why a walk of n blocks from us is refused, if it is; there is memory for `room` frames
--   walk_refusal G us marks frames   why a walk of G from us, with these marks and frames lent to it, is refused, if it is
use Rattle.std.specs.Prelude.{ℕ, Bool, not, List, length, take, None, Option, ◌==◌, nat_lt}
use Rattle.graph.specs.Meaning.{Meaning}
use Rattle.kinds.specs.declared.refusal.Refusal.{Refusal}
use Rattle.kinds.specs.declared.refusal.Refusal.TheVariants.{NoBlock, Short, Dirty}
use Rattle.kinds.specs.Replies.{row}
use Rattle.std.specs.List.{list_any}

abbrev pub no_block : ℕ → List ℕ → Bool
no_block n us = list_any (λ u. not (nat_lt u n)) us

abbrev pub dirty : List ℕ → Bool
dirty marks = list_any (λ m. not (m == 0)) marks

abbrev pub refused : ℕ → List ℕ → List ℕ → ℕ → Option Refusal
refused n us marks room =
    row (no_block n us) NoBlock
    (row (nat_lt (length marks) n) Short
    (row (nat_lt room n) Short
    (row (dirty (take n marks)) Dirty
    None)))

abbrev pub walk_refusal : {P : Type 0} → Meaning → List ℕ → List ℕ → List P → Option Refusal
walk_refusal G us marks frames = refused G.size us marks (length frames)
