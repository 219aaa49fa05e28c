-- Which blocks start an infinite loop. Assumes nothing.
--
--   is_backedge k             whether an edge of the kind k is a Backedge
--   first_fit sought es       the first of the edges es whose kind is sought
--   after_fit sought es       those after it
--   jump_target u g           the target of u's newest outgoing Jump, or else of its newest outgoing edge
--   only is                   the instruction of a block that holds exactly one
--   loop_start holds u g      the two ends of the loop that u starts, if it starts one; `holds` finds an instruction true
--   loop_refusal u g          refused where u is no block, or a second Backedge comes in
use Rattle.std.specs.Prelude.{ℕ, Bool, true, false, cond, not, ◌&&◌, List, [], ◌∷◌, length, is_some, Some, None, Option, nat_le}
use Rattle.std.specs.Option.{option_map, option_or}
use Rattle.std.specs.List.{slice_get}
use Rattle.kinds.specs.Replies.{row}
use Rattle.kinds.specs.declared.block.Instruction.{Instruction}
use Rattle.kinds.specs.declared.edge.Edge.{Edge}
use Rattle.kinds.specs.declared.edge.EdgeType.{EdgeType}
use Rattle.kinds.specs.declared.edge.EdgeType.TheVariants as edge
use Rattle.kinds.specs.declared.refusal.Refusal.{Refusal}
use Rattle.kinds.specs.declared.refusal.Refusal.TheVariants.{NoBlock, TwoBackedges}
use Rattle.store.specs.Edges.{listed}
use Rattle.store.specs.declared.direction.Direction.TheVariants.{Outgoing, Incoming}
use Rattle.blocks.specs.Blocks.{GraphState, instructions_in}
use Rattle.book.specs.Ledger.{is_jump}

abbrev pub is_backedge : EdgeType → Bool
is_backedge edge.Jump = false
is_backedge edge.Normal = false
is_backedge edge.Backedge = true
is_backedge edge.NewFunction = false
is_backedge edge.Finalize = false
is_backedge (edge.Error e) = false
is_backedge edge.Unreachable = false
is_backedge edge.Join = false

abbrev pub first_fit : (EdgeType → Bool) → List Edge → Option Edge
first_fit sought [] = None
first_fit sought (e ∷ es) = cond (sought e.kind) (Some e) (first_fit sought es)

abbrev pub after_fit : (EdgeType → Bool) → List Edge → List Edge
after_fit sought [] = []
after_fit sought (e ∷ es) = cond (sought e.kind) es (after_fit sought es)

-- the edges that leave u, and those that come into it, newest first
abbrev pub leaving : ℕ → GraphState → List Edge
leaving u g = listed Outgoing u g.edges

abbrev pub entering : ℕ → GraphState → List Edge
entering u g = listed Incoming u g.edges

abbrev pub jump_target : ℕ → GraphState → Option ℕ
jump_target u g = option_map (λ e. e.target) (option_or (first_fit is_jump (leaving u g)) (slice_get (leaving u g) 0))

-- the first, where there is no second
abbrev pub alone : Option Instruction → Option Instruction → Option Instruction
alone None o = None
alone (Some i) None = Some i
alone (Some i) (Some j) = None

abbrev pub only : List Instruction → Option Instruction
only is = alone (slice_get is 0) (slice_get is 1)

-- the block u holds no instruction, and no Backedge leaves it
abbrev pub bare : ℕ → GraphState → Bool
bare u g = not (is_some (slice_get (instructions_in u g.instructions) 0)) && not (is_some (first_fit is_backedge (leaving u g)))

-- whether there is an instruction, and it is found true
abbrev pub found_true : (Instruction → Bool) → Option Instruction → Bool
found_true holds None = false
found_true holds (Some i) = holds i

module _ (holds : Instruction → Bool) (u : ℕ) (g : GraphState) where
  -- the answer where a Backedge comes in from the block s
  abbrev pub loop_from : ℕ → Option (ℕ × ℕ)
  loop_from s =
      cond (bare u g) (option_map (λ t. (t, u)) (jump_target u g))
      (cond (not (is_some (only (instructions_in u g.instructions)))) None
      (cond (found_true holds (only (instructions_in u g.instructions))) (option_map (λ t. (t, u)) (jump_target u g))
      (cond (found_true holds (only (instructions_in s g.instructions))) (option_map (λ t. (u, t)) (jump_target u g))
      None)))

  -- by the newest Backedge that comes in, if there is one
  abbrev pub by_backedge : Option Edge → Option (ℕ × ℕ)
  by_backedge None = None
  by_backedge (Some e) = loop_from e.source

  abbrev pub loop_start : Option (ℕ × ℕ)
  loop_start = by_backedge (first_fit is_backedge (entering u g))

abbrev pub loop_refusal : ℕ → GraphState → Option Refusal
loop_refusal u g =
    row (nat_le (length g.marks) u) NoBlock
    (row (is_some (first_fit is_backedge (after_fit is_backedge (entering u g)))) TwoBackedges
    None)
