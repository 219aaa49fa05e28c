-- A walk with some blocks open: what is left to do. Assumes nothing.
--
--   OpenBlock    a block that is open, and what is left of its list
--   unwind fs s  from the top: the rest of each list is read, and its block closed
use Rattle.std.specs.Prelude.{ℕ, ◌-◌, List, [], ◌∷◌, length}
use Rattle.graph.specs.Meaning.{Meaning}
use Rattle.walk.specs.Walk.{Visitor, State, close, scan, opening}

pub record OpenBlock : Type 0 where
  pub block : ℕ
  pub rest : List ℕ

module _ {S B : Type 0} (V : Visitor S B) (G : Meaning) where
  unfoldable pub unwind : List OpenBlock → State S B → State S B
  unwind [] s = s
  unwind (f ∷ fs) s = unwind fs (close V f.block (scan V (opening V G (G.size - length (f ∷ fs))) f.block f.rest s))
