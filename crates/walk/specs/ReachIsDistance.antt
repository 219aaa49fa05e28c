-- The law of reach: under a filter that never stops, yes is said exactly where the target has a distance. Assumes nothing.
--
--   ReachIsDistance G F a b answer   the law, for an answer to whether b is reached from a
use Rattle.std.specs.Prelude.{◌≡◌, ℕ, Bool, true, ◌↔◌}
use Rattle.graph.specs.Meaning.{Meaning}
use Rattle.walk.specs.declared.event.Control.{Control}
use Rattle.walk.specs.Reach.{Passing, NeverStops}
use Rattle.walk.specs.Ways.{Distance}

abbrev pub ReachIsDistance : Meaning → (ℕ → Control Bool) → ℕ → ℕ → Bool → Type 0
ReachIsDistance G F a b answer = NeverStops F → (answer ≡ true) ↔ ((k : ℕ) × Distance (Passing G F) a b k)
