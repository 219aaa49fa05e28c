-- The blocks found by a walk, and the numbers that it gives. Assumes nothing.
--
--   count t l     how often t stands in the list l
--   found_in e    the block that the event e discovers, if it discovers one
--   numbers_in e  the discovery or finish number in the event e, if it has one
--   found l       the blocks discovered in the log l, the last first
--   numbers l     the discovery and finish numbers in the log l, the last first
use Rattle.std.specs.Prelude.{ℕ, count_by, List, [], ◌∷◌, ◌++◌, ◌==◌}
use Rattle.walk.specs.declared.event.DfsEvent.{DfsEvent}
use Rattle.walk.specs.declared.event.DfsEvent.TheVariants.{Discover, TreeEdge, BackEdge, CrossForwardEdge, Finish}
use Rattle.walk.specs.Walk.{Report}

unfoldable pub count : ℕ → List ℕ → ℕ
count t xs = count_by (λ x. t == x) xs

abbrev pub found_in : DfsEvent → List ℕ
found_in (Discover u t) = u ∷ []
found_in (TreeEdge u v) = []
found_in (BackEdge u v) = []
found_in (CrossForwardEdge u v) = []
found_in (Finish u t) = []

abbrev pub numbers_in : DfsEvent → List ℕ
numbers_in (Discover u t) = t ∷ []
numbers_in (TreeEdge u v) = []
numbers_in (BackEdge u v) = []
numbers_in (CrossForwardEdge u v) = []
numbers_in (Finish u t) = t ∷ []

unfoldable pub found : {B : Type 0} → List (Report B) → List ℕ
found [] = []
found (h ∷ l) = found_in h.event ++ found l

unfoldable pub numbers : {B : Type 0} → List (Report B) → List ℕ
numbers [] = []
numbers (h ∷ l) = numbers_in h.event ++ numbers l
