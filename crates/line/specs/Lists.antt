-- The lists of numbers that words write. Assumes nothing.
--
--   numbers ws   the numbers that the words ws write, where each of them is a number; else none
--   list_of w    the numbers that stand between the commas of w; no number where w is `-`
--   only_list ws the list of the only word of ws
use Rattle.std.specs.Prelude.{ℕ, cond, List, [], ◌∷◌, Some, Option}
use Rattle.std.specs.Option.{option_map, option_zip}
use Rattle.line.specs.Arguments.{dash, one_of}
use Rattle.line.specs.Numbers.{number_of}
use Rattle.line.specs.Words.{parts}

abbrev pub numbers : List (List ℕ) → Option (List ℕ)
numbers [] = Some []
numbers (w ∷ ws) = option_map (λ p. p.0 ∷ p.1) (option_zip (number_of w) (numbers ws))

abbrev pub list_of : List ℕ → Option (List ℕ)
list_of w = cond (dash w) (Some []) (numbers (parts 44 w))

abbrev pub only_list : List (List ℕ) → Option (List ℕ)
only_list ws = one_of list_of ws
