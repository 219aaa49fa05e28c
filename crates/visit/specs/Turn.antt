-- What one turn of a walk comes to, whatever end the walk is bound for. Assumes nothing.
--
--   Reads v .. r    the neighbour v was read: it is to be opened, or was passed over, or the walk ended
--   IfEnter r A     A, where the neighbour is to be opened
--   ReadTurn        the neighbour v of u is read, u being on top of other open blocks
--   CloseTurn       u is closed, which is on top and has its list read
--   OpenTurn        the new block u is opened over the blocks fs, and the blocks fs' are open then
use Rattle.std.specs.Prelude.{◌≡◌, ℕ, Bool, true, false, ◌+◌, ◌<◌, List, [], ◌∷◌, Option, slice_index}
use Rattle.std.specs.declared.ops.ControlFlow.{ControlFlow}
use Rattle.std.specs.declared.ops.ControlFlow.TheVariants.{Continue, Break}
use Rattle.graph.specs.Meaning.{Meaning}
use Rattle.walk.specs.declared.mark.Mark.TheVariants.{New}
use Rattle.walk.specs.Marks.{mark_of}
use Rattle.walk.specs.OpenBlocks.{OpenBlock}
use Rattle.walk.specs.Walk.{Visitor, State}
use Rattle.visit.specs.Standing.{Stands, Opens, GoesOn, Ended}

abbrev pub IfEnter : {B : Type 0} → ControlFlow B Bool → Type 0 → Type 0
IfEnter (Continue false) A = Unit {0}
IfEnter (Continue true) A = A
IfEnter (Break x) A = Unit {0}

module _ {S B : Type 0} (V : Visitor S B) where
  abbrev pub Reads : Meaning → ℕ → List ℕ → ℕ → S → List OpenBlock → State S B → ControlFlow B Bool → Type 0
  Reads G v marks t x fs end (Continue false) = Stands V G marks t x fs end
  Reads G v marks t x fs end (Continue true) = Opens V G v marks t x fs end
  Reads G v marks t x fs end (Break y) = Ended y x end

  abbrev pub ReadTurn : List ℕ → ℕ → ℕ → S → S → ControlFlow B Bool → Type 0
  ReadTurn marks u v x x' r = (G : Meaning) (t : ℕ) (vs : List ℕ) (fs : List OpenBlock) (end : State S B) → v < G.size
      → Stands V G marks t x (record { block = u; rest = v ∷ vs } ∷ fs) end → Reads G v marks t x' (record { block = u; rest = vs } ∷ fs) end r

  abbrev pub CloseTurn : List ℕ → List ℕ → ℕ → ℕ → S → S → Option B → Type 0
  CloseTurn marks marks' t u x x' r = (G : Meaning) (fs : List OpenBlock) (end : State S B)
      → Stands V G marks t x (record { block = u; rest = [] } ∷ fs) end → GoesOn V G marks' (t + 1) x' fs end r

  abbrev pub OpenTurn : Meaning → List ℕ → List ℕ → ℕ → ℕ → S → S → List OpenBlock → List OpenBlock → Option B → Type 0
  OpenTurn G marks marks' t u x x' fs fs' r = (end : State S B) → u < G.size → mark_of (slice_index marks u) ≡ New
      → Opens V G u marks t x fs end → GoesOn V G marks' (t + 1) x' fs' end r
