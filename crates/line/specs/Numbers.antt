-- The numbers among the words of a line. Assumes nothing.
--
--   value w       the number that the digits w write
--   number_of w   that number, where w is digits only, one at least, and the number is below 2 ^ 32; else none
use Rattle.std.specs.Prelude.{ℕ, ◌+◌, ◌-◌, ◌*◌, ◌^◌, cond, ◌&&◌, List, [], ◌∷◌, length, Some, None, Option, nat_lt}
use Rattle.std.specs.Str.{all_ascii_digits}

-- the digits read from the left, after the number n
abbrev pub read_on : ℕ → List ℕ → ℕ
read_on n [] = n
read_on n (c ∷ cs) = read_on (n * 10 + (c - 48)) cs

abbrev pub value : List ℕ → ℕ
value w = read_on 0 w

abbrev pub number_of : List ℕ → Option ℕ
number_of w = cond (all_ascii_digits w && (nat_lt 0 (length w) && nat_lt (value w) (2 ^ 32))) (Some (value w)) None
