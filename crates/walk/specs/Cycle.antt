-- Whether a block lies on a cycle, asked by a walk. Assumes nothing.
--
--   cycle_reply u     the replies of a walk that ends where an edge leads back to u
--   cycle_visitor u   the visitor that replies so
--   cyclic G u        whether the walk from u is ended
--   Listed G u v      a step to a listed neighbour, permitted or not
use Rattle.std.specs.Prelude.{ℕ, Bool, cond, [], ◌∷◌, is_some, ◌==◌}
use Rattle.graph.specs.Meaning.{Meaning, Member}
use Rattle.walk.specs.declared.event.Control.{Control}
use Rattle.walk.specs.declared.event.Control.TheVariants.{Continue, Break}
use Rattle.walk.specs.declared.event.DfsEvent.{DfsEvent}
use Rattle.walk.specs.declared.event.DfsEvent.TheVariants.{Discover, TreeEdge, BackEdge, CrossForwardEdge, Finish}
use Rattle.walk.specs.Walk.{Visitor, walk}

abbrev pub cycle_reply : ℕ → DfsEvent → Control (Unit {0})
cycle_reply u (Discover v t) = Continue
cycle_reply u (TreeEdge v w) = Continue
cycle_reply u (BackEdge v w) = cond (w == u) (Break tt) Continue
cycle_reply u (CrossForwardEdge v w) = Continue
cycle_reply u (Finish v t) = Continue

abbrev pub cycle_visitor : ℕ → Visitor (Unit {0}) (Unit {0})
cycle_visitor u = record { reply = λ _ e. cycle_reply u e; next = λ s _. s }

abbrev pub cyclic : Meaning → ℕ → Bool
cyclic G u = is_some (walk (cycle_visitor u) G (u ∷ []) tt).stop

abbrev pub Listed : Meaning → ℕ → ℕ → Type 0
Listed G u v = Member v (G.neighbors u)
