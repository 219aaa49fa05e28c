-- What the loops of a walk come to, whatever end the walk is bound for. Assumes nothing.
--
--   AtRest G p s      no block is open in the search p, whose frames suffice for the blocks, and the walk has come to s
--   Leaves G p s r    that, or the walk ended at s with the answer r
--   Unread p end      the open blocks of p are still to be read and closed, and the walk is bound for `end`
--   Explored p p' r   they were, and those that they lead to; or the walk ended
--   ExploredFrom      the block u was opened with no block open, and the same
--   Walked            the starts were opened one after another from the first state on, and the same
use Rattle.std.specs.Prelude.{◌≡◌, ℕ, ◌≤◌, List, length, Some, None, Option}
use Rattle.graph.specs.Meaning.{Meaning}
use Rattle.walk.specs.Walk.{Visitor, State, opening, walk}
use Rattle.visit.specs.OpenFrames.{stacked}
use Rattle.visit.specs.Standing.{Ended, Idle, Stands}
use Rattle.search.specs.declared.explore.Search.{Search}

pub record AtRest {X S P B : Type 0} (G : Meaning) (p : Search X S P) (s : State S B) : Type 0 where
  pub room : G.size ≤ length p.stack.now.slots.now
  pub empty : p.stack.now.used ≡ 0
  pub idle : Idle G.size p.guard.now.marks.now p.time p.visitor.now s

abbrev pub Leaves : {X S P B : Type 0} → Meaning → Search X S P → State S B → Option B → Type 0
Leaves G p s None = AtRest G p s
Leaves G p s (Some x) = Ended x p.visitor.now s

module _ {X S P B : Type 0} (V : Visitor S B) (G : Meaning) where
  module _ (rest : P → List ℕ) where
    abbrev pub Unread : Search X S P → State S B → Type 0
    Unread p end = Stands V G p.guard.now.marks.now p.time p.visitor.now (stacked rest p.stack.now) end

    abbrev pub Explored : Search X S P → Search X S P → Option B → Type 0
    Explored p p' r = (end : State S B) → Unread p end → Leaves G p' end r

  abbrev pub ExploredFrom : Search X S P → Search X S P → ℕ → Option B → Type 0
  ExploredFrom p p' u r = (s : State S B) → AtRest G p s → Leaves G p' (opening V G G.size u s) r

  abbrev pub Walked : List ℕ → Search X S P → Search X S P → Option B → Type 0
  Walked us p p' r = ((walk V G us p.visitor.now).stop ≡ r) × ((walk V G us p.visitor.now).visitor ≡ p'.visitor.now)
