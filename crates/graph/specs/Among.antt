-- Sets of numbers, of blocks or of nodes, as lists. Assumes nothing.
--
--   among b bs   the number b is one of bs
use Rattle.std.specs.List.{list_any}
use Rattle.std.specs.Prelude.{ℕ, Bool, List, nat_eq}

abbrev pub among : ℕ → List ℕ → Bool
among b bs = list_any (λ x. nat_eq x b) bs
