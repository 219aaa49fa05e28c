-- How much a plan holds. Assumes nothing.
--
--   fed row          how many segments the row lists
--   feeding rows     how many of the rows list a segment
--   transfers rows   how many segments the rows list together
use Rattle.std.specs.Prelude.{ℕ, List, length, sum_by, count_by, nat_lt}
use Rattle.belt.specs.Words.{segments}

abbrev pub fed : ℕ → ℕ
fed row = length (segments row)

abbrev pub feeding : List ℕ → ℕ
feeding rows = count_by (λ row. nat_lt 0 (fed row)) rows

abbrev pub transfers : List ℕ → ℕ
transfers rows = sum_by fed rows
