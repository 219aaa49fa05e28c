-- What the loops of a walk leave as it was. Assumes nothing.
--
--   Kept p p'   the search p' has the graph, the visitor and the marks that were lent to p, and as many marks and slots; its number is no less
use Rattle.std.specs.Prelude.{◌≡◌, ◌≤◌, length}
use Rattle.search.specs.declared.explore.Search.{Search}

pub record Kept {G V P : Type 0} (p p' : Search G V P) : Type 0 where
  pub graph : p'.graph ≡ p.graph
  pub heard : p'.visitor.ghost_name ≡ p.visitor.ghost_name
  pub guard : p'.guard.ghost_name ≡ p.guard.ghost_name
  pub same : p'.guard.now.marks.ghost_name ≡ p.guard.now.marks.ghost_name
  pub long : length p'.guard.now.marks.now ≡ length p.guard.now.marks.now
  pub slots : length p'.stack.now.slots.now ≡ length p.stack.now.slots.now
  pub later : p.time ≤ p'.time
