-- The bytes that separators stand for. Assumes nothing.
--
--   byte_of s   the byte of the separator s
use Rattle.std.specs.Prelude.{ℕ}
use Rattle.line.specs.declared.separator.Separator.{Separator}
use Rattle.line.specs.declared.separator.Separator.TheVariants.{Blank, Comma, Plus, Colon}

abbrev pub byte_of : Separator → ℕ
byte_of Blank = 32
byte_of Comma = 44
byte_of Plus = 43
byte_of Colon = 58
