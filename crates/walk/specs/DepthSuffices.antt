-- The law of the depth: openings stand no deeper in one another than there are blocks, so that the bound never runs out. Assumes nothing.
--
--   DepthSuffices V G us v   with any greater bound the walk from us is the same
use Rattle.std.specs.Prelude.{◌≡◌, ℕ, ◌≤◌, List}
use Rattle.graph.specs.Meaning.{Meaning}
use Rattle.walk.specs.Walk.{Visitor, begin, starts, walk}

abbrev pub DepthSuffices : {S B : Type 0} → Visitor S B → Meaning → List ℕ → S → Type 0
DepthSuffices V G us v = (d : ℕ) → G.size ≤ d → starts V G d us (begin V v) ≡ walk V G us v
