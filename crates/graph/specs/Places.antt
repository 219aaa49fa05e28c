-- Places in lists of neighbours. Assumes nothing.
--
--   Steps rest l r   r is a step along the list l: its first block with a place for what follows, or none where l is empty
use Rattle.std.specs.Prelude.{◌≡◌, ℕ, List, [], ◌∷◌, Some, None, Option}
use Rattle.graph.specs.declared.graph.Step.{Step}

abbrev pub Steps : {P : Type 0} → (P → List ℕ) → List ℕ → Option (Step P) → Type 0
Steps rest l None = l ≡ []
Steps rest l (Some s) = l ≡ s.block ∷ rest s.next
