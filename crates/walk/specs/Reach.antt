-- Reach from block to block under a filter, asked by a walk. Assumes nothing.
--
--   step_reply p t         the reply to a step that is permitted or not, and leads to the target or not
--   reach_reply G F b      the replies of a walk that seeks b: at TreeEdge(u, v) the filter F is asked about u, then the step decides
--   reach_visitor G F b    the visitor that replies so
--   reachable G F a b      whether b is reached from a: they are one block, or the walk from a is ended with yes
--   Passing G F u v        a permitted step to a listed neighbour that leaves a block which the filter lets pass
--   NeverStops F           the filter F never stops a walk
use Rattle.std.specs.Prelude.{◌≡◌, ℕ, Bool, true, false, cond, [], ◌∷◌, ◌==◌, ◌≢◌}
use Rattle.std.specs.Option.{unwrap_or}
use Rattle.graph.specs.Meaning.{Meaning, Member}
use Rattle.walk.specs.declared.event.Control.{Control}
use Rattle.walk.specs.declared.event.Control.TheVariants.{Continue, Prune, Break}
use Rattle.walk.specs.declared.event.DfsEvent.{DfsEvent}
use Rattle.walk.specs.declared.event.DfsEvent.TheVariants.{Discover, TreeEdge, BackEdge, CrossForwardEdge, Finish}
use Rattle.walk.specs.Walk.{Visitor, if_continue, walk}

abbrev pub step_reply : Bool → Bool → Control Bool
step_reply permitted target = cond permitted (cond target (Break true) Continue) Prune

abbrev pub reach_reply : Meaning → (ℕ → Control Bool) → ℕ → DfsEvent → Control Bool
reach_reply G F b (Discover u t) = Continue
reach_reply G F b (TreeEdge u v) = if_continue (F u) (F u) (step_reply (G.permitted u v) (v == b))
reach_reply G F b (BackEdge u v) = Continue
reach_reply G F b (CrossForwardEdge u v) = Continue
reach_reply G F b (Finish u t) = Continue

abbrev pub reach_visitor : Meaning → (ℕ → Control Bool) → ℕ → Visitor (Unit {0}) Bool
reach_visitor G F b = record { reply = λ _ e. reach_reply G F b e; next = λ s _. s }

abbrev pub reachable : Meaning → (ℕ → Control Bool) → ℕ → ℕ → Bool
reachable G F a b = cond (a == b) true (unwrap_or (walk (reach_visitor G F b) G (a ∷ []) tt).stop false)

pub record Passing (G : Meaning) (F : ℕ → Control Bool) (u v : ℕ) : Type 0 where
  pub listed : Member v (G.neighbors u)
  pub permitted : G.permitted u v ≡ true
  pub passes : F u ≡ Continue

abbrev pub NeverStops : (ℕ → Control Bool) → Type 0
NeverStops F = (u : ℕ) (b : Bool) → F u ≢ Break b
