-- The frames of a walk as open blocks. Assumes nothing.
--
--   opened rest fs   each frame of fs as its block and the rest of its list, where `rest` says what is left from a place on
--   stacked rest s   the frames that the stack s holds as open blocks, the top first
use Rattle.std.specs.Prelude.{ℕ, List, [], ◌∷◌}
use Rattle.walk.specs.OpenBlocks.{OpenBlock}
use Rattle.visit.specs.declared.frame.Frame.{Frame}
use Rattle.visit.specs.declared.stack.Stack.{Stack}
use Rattle.visit.specs.Held.{held}

abbrev pub opened : {P : Type 0} → (P → List ℕ) → List (Frame P) → List OpenBlock
opened rest [] = []
opened rest (f ∷ fs) = record { block = f.block; rest = rest f.place } ∷ opened rest fs

abbrev pub stacked : {P : Type 0} → (P → List ℕ) → Stack (Frame P) → List OpenBlock
stacked rest s = opened rest (held s.slots.now s.used)
