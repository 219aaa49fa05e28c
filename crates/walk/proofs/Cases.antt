-- The event that reports an edge, and a case that is none.
use Rattle.std.proofs.Common.{ℕ, ◌⊎◌, arith}
use Rattle.walk.specs.declared.event.DfsEvent.{DfsEvent}
use Rattle.walk.specs.declared.event.DfsEvent.TheVariants.{TreeEdge, BackEdge, CrossForwardEdge}
use Rattle.walk.specs.declared.mark.Mark.{Mark}
use Rattle.walk.specs.declared.mark.Mark.TheVariants.{New, Open, Done}

pub not_left : {A C : Type 0} → (A → ⊥) → A ⊎ C → C
not_left f h = grind arith

-- the event that reports an edge to a block so marked
abbrev pub event_of : Mark → ℕ → ℕ → DfsEvent
event_of New u v = TreeEdge u v
event_of Open u v = BackEdge u v
event_of Done u v = CrossForwardEdge u v
