-- Where a reader of words stands. Assumes nothing.
--
--   parts_left s rest   the parts of the text that is left, at the bytes s; none where no text is left
--   left w              the words that are still to be read
use Rattle.std.specs.Prelude.{ℕ, List, [], Option}
use Rattle.std.specs.Option.{option_map_or}
use Rattle.std.specs.Borrow.{Bor}
use Rattle.line.specs.declared.words.Words.{Words}
use Rattle.line.specs.Separators.{byte_of}
use Rattle.line.specs.Words.{parts}

abbrev pub parts_left : ℕ → Option (Bor (List ℕ)) → List (List ℕ)
parts_left s rest = option_map_or (λ text. parts s text.now) rest []

abbrev pub left : Words → List (List ℕ)
left w = parts_left (byte_of w.separator) w.rest
