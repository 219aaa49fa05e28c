-- The lent frames after a walk. Assumes nothing.
--
--   FramesAfter why fs fs'   where the walk is refused the frames are as they were; else what they hold is left free, and they are as many
use Rattle.std.specs.Prelude.{◌≡◌, List, length, Some, None, Option}
use Rattle.kinds.specs.declared.refusal.Refusal.{Refusal}

abbrev pub FramesAfter : {F : Type 0} → Option Refusal → List F → List F → Type 0
FramesAfter (Some r) fs fs' = fs' ≡ fs
FramesAfter None fs fs' = length fs' ≡ length fs
