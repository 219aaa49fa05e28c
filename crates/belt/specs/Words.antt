-- Words of 64 bits as sets of segments. Assumes nothing.
--
--   bit y p       the bit y of the word p
--   put y v p     p with the bit y made 1 where v holds, else 0
--   segments p    the numbers of the bits of p that are 1, rising
use Rattle.std.specs.Prelude.{ℕ, zero, suc, ◌+◌, ◌*◌, ◌/◌, ◌%◌, ◌^◌, Bool, cond, List, [], ◌∷◌}

abbrev pub bit : ℕ → ℕ → ℕ
bit y p = p / 2 ^ y % 2

unfoldable pub put : ℕ → Bool → ℕ → ℕ
put zero v p = p / 2 * 2 + cond v 1 0
put (suc y) v p = put y v (p / 2) * 2 + p % 2

-- s before the list, where the bit b is 1
abbrev pub with_bit : ℕ → ℕ → List ℕ → List ℕ
with_bit zero s l = l
with_bit (suc b) s l = s ∷ l

-- those among the first k bits of p, where the first has the number s
abbrev pub segments_from : ℕ → ℕ → ℕ → List ℕ
segments_from zero s p = []
segments_from (suc k) s p = with_bit (p % 2) s (segments_from k (s + 1) (p / 2))

unfoldable pub segments : ℕ → List ℕ
segments p = segments_from 64 0 p
