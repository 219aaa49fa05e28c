-- The highest of the numbers that a list gives. Assumes nothing.
--
--   highest f xs   the highest f x of the elements x of xs; 0 where there is none
--   above o        one more than a number, 0 for none
use Rattle.std.specs.Prelude.{ℕ, suc, max, List, [], ◌∷◌, Some, None, Option}

abbrev pub highest : {X : Type 0} → (X → ℕ) → List X → ℕ
highest f [] = 0
highest f (x ∷ xs) = max (f x) (highest f xs)

abbrev pub above : Option ℕ → ℕ
above None = 0
above (Some k) = suc k
