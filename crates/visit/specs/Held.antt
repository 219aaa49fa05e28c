-- What a stack over lent memory holds. Assumes nothing.
--
--   held xs k                   the first k slots of xs, the top first
--   Popped r m k before after   a pop answered r: the top, or none where there is none; m and k count the slots in use before and after
use Rattle.std.specs.Prelude.{◌≡◌, ℕ, ◌+◌, List, ◌∷◌, reverse, take, Some, None, Option}

unfoldable pub held : {X : Type 0} → List X → ℕ → List X
held xs k = reverse (take k xs)

abbrev pub Popped : {X : Type 0} → Option X → ℕ → ℕ → List X → List X → Type 0
Popped None m k before after = (m ≡ 0) × (k ≡ 0)
Popped (Some x) m k before after = (m ≡ k + 1) × (before ≡ x ∷ after)
