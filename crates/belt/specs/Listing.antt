-- What the listing of a set of segments promises. Assumes nothing.
--
--   Rising l     each number of the list l is below the next, so that it stands there once
--   Lists has l  l has just the segments of which `has` says so, rising
use Rattle.std.specs.Prelude.{◌≡◌, ℕ, ◌<◌, Bool, true, ◌↔◌, List, [], ◌∷◌}
use Rattle.graph.specs.Meaning.{Member}

abbrev pub Rising : List ℕ → Type 0
Rising [] = Unit {0}
Rising (x ∷ []) = Unit {0}
Rising (x ∷ (y ∷ l)) = (x < y) × Rising (y ∷ l)

pub record Lists (has : ℕ → Bool) (l : List ℕ) : Type 0 where
  pub exact : (s : ℕ) → Member s l ↔ (has s ≡ true)
  pub rising : Rising l
