-- The marks of blocks, and a board of bytes that holds them. Assumes nothing.
--
--   mark_as u m f   the marks f, with that of u set to m
--   byte_of m       the byte that stands for the mark m
--   mark_of b       the mark that the byte b stands for
--   Holds bs f n    the bytes bs hold the marks f of the blocks below n
--   unseen f n      how many blocks below n are new under the marks f
use Rattle.std.specs.Prelude.{◌≡◌, ℕ, zero, suc, ◌+◌, ◌<◌, cond, List, ◌==◌, slice_index}
use Rattle.walk.specs.declared.mark.Mark.{Mark}
use Rattle.walk.specs.declared.mark.Mark.TheVariants.{New, Open, Done}

abbrev pub mark_as : ℕ → Mark → (ℕ → Mark) → ℕ → Mark
mark_as u m f w = cond (w == u) m (f w)

abbrev pub byte_of : Mark → ℕ
byte_of New = 0
byte_of Open = 1
byte_of Done = 2

abbrev pub mark_of : ℕ → Mark
mark_of zero = New
mark_of (suc zero) = Open
mark_of (suc (suc b)) = Done

abbrev pub Holds : List ℕ → (ℕ → Mark) → ℕ → Type 0
Holds bs f n = (k : ℕ) → k < n → mark_of (slice_index bs k) ≡ f k

-- 1 for a new block, else 0
abbrev pub one_if_new : Mark → ℕ
one_if_new New = 1
one_if_new Open = 0
one_if_new Done = 0

unfoldable pub unseen : (ℕ → Mark) → ℕ → ℕ
unseen f zero = 0
unseen f (suc k) = one_if_new (f k) + unseen f k
