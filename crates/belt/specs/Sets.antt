-- Sets of segments. Assumes nothing.
--
--   set_of p      the set of the segments whose bits are 1 in the word p
--   listed s      the segments of the set s, rising
use Rattle.std.specs.Prelude.{ℕ, List}
use Rattle.belt.specs.declared.segments.Segments.{Segments}
use Rattle.belt.specs.Words.{segments}

abbrev pub set_of : ℕ → Segments
set_of p = record { bits = p }

abbrev pub listed : Segments → List ℕ
listed s = segments s.bits
