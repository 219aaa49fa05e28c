-- Edges in the order made, and the lists in which they stand at their blocks. Assumes nothing.
--
--   block_at d e         the block at which the edge e is listed in the direction d: its source outgoing, its target incoming
--   listed d b es        the edges of es at the block b, newest first
--   has_edge d b es      whether there is one
--   newest d b es        the number of the newest of them, if there is one
--   rest d es p          what the place p stands for: the edge of that number and the older ones at its block; none past the last edge
--   HeadOf d b es p      p is the place at the head of the edges at b: the number of the newest, standing for all of them, none if b has none
--   StepsTo d es p r     r is a step from the place p: the first edge that p stands for and a place for the others, or none
use Rattle.std.specs.Prelude.{◌≡◌, ℕ, suc, Bool, true, false, cond, List, [], ◌∷◌, reverse, take, is_some, Some, None, filter, Option, ◌==◌, nat_eq}
use Rattle.std.specs.List.{slice_get}
use Rattle.kinds.specs.declared.edge.Edge.{Edge}
use Rattle.store.specs.declared.direction.Direction.{Direction}
use Rattle.store.specs.declared.direction.Direction.TheVariants.{Outgoing, Incoming}
use Rattle.store.specs.declared.edge_store.methods.EdgeStep.{EdgeStep}

abbrev pub block_at : Direction → Edge → ℕ
block_at Outgoing e = e.source
block_at Incoming e = e.target

abbrev pub listed : Direction → ℕ → List Edge → List Edge
listed d b es = reverse (filter (λ e. nat_eq (block_at d e) b) es)

abbrev pub nonempty : {X : Type 0} → List X → Bool
nonempty [] = false
nonempty (x ∷ xs) = true

abbrev pub has_edge : Direction → ℕ → List Edge → Bool
has_edge d b es = nonempty (listed d b es)

-- the number of the last edge of es at b, where the first of es has the number i; o if none is at b
abbrev pub newest_from : Direction → ℕ → ℕ → Option ℕ → List Edge → Option ℕ
newest_from d b i o [] = o
newest_from d b i o (e ∷ es) = newest_from d b (suc i) (cond (block_at d e == b) (Some i) o) es

unfoldable pub newest : Direction → ℕ → List Edge → Option ℕ
newest d b es = newest_from d b 0 None es

-- those of es that share the block of an edge, if there is that edge
abbrev pub beside : Direction → Option Edge → List Edge → List Edge
beside d None es = []
beside d (Some e) es = listed d (block_at d e) es

abbrev pub rest : Direction → List Edge → Option ℕ → List Edge
rest d es None = []
rest d es (Some k) = beside d (slice_get es k) (take (suc k) es)

pub record HeadOf (d : Direction) (b : ℕ) (es : List Edge) (p : Option ℕ) : Type 0 where
  pub value : p ≡ newest d b es
  pub list : rest d es p ≡ listed d b es
  pub some : is_some p ≡ has_edge d b es

abbrev pub StepsTo : Direction → List Edge → Option ℕ → Option EdgeStep → Type 0
StepsTo d es p None = rest d es p ≡ []
StepsTo d es p (Some s) = rest d es p ≡ s.edge ∷ rest d es s.next
