-- The law of cycles: yes is said exactly where a nonempty way over listed neighbours leads back. Assumes nothing.
--
--   CycleIsWayBack G u answer   the law, for an answer to whether u lies on a cycle
use Rattle.std.specs.Prelude.{◌≡◌, ℕ, suc, Bool, true, ◌↔◌}
use Rattle.graph.specs.Meaning.{Meaning}
use Rattle.walk.specs.Cycle.{Listed}
use Rattle.walk.specs.Ways.{Way}

abbrev pub CycleIsWayBack : Meaning → ℕ → Bool → Type 0
CycleIsWayBack G u answer = (answer ≡ true) ↔ ((k : ℕ) × Way (Listed G) u (suc k) u)
