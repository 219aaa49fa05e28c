-- What a graph of blocks is while it is built, and what each change does to it. Assumes nothing.
--
--   GraphState                the blocks by their marks, the instructions with their blocks and the edges, each in the order made
--   marks                     for each block, whether it is marked unreachable
--   empty                     a graph with no blocks
--   block_added g             g with one block more, reachable and with no instructions
--   instruction_added b i g   g with the instruction i behind those of the block b
--   mark_set b m g            g with the mark of the block b set to m
--   target_marked a b k g     g with the mark of b as an edge from a to b of the kind k leaves it
--   edge_added a b k g        g with that mark and that edge
--   instructions_in b is      the instructions of the block b, in their order
--   no_block b g              refused where b is no block of g
--   Grown n e i g h           h has n blocks, e edges and i instructions more than g
use Rattle.std.specs.Prelude.{◌≡◌, ℕ, ◌+◌, Bool, true, false, cond, ◌&&◌, List, [], ◌∷◌, ◌++◌, map, length, filter, None, Option, ◌==◌, nat_le, slice_index_or, slice_set}
use Rattle.std.specs.List.{list_any}
use Rattle.blocks.specs.declared.basic_block.BlockInstruction.{BlockInstruction}
use Rattle.kinds.specs.declared.block.Instruction.{Instruction}
use Rattle.kinds.specs.declared.block.InstructionKind.{InstructionKind}
use Rattle.kinds.specs.declared.block.InstructionKind.TheVariants as instruction
use Rattle.kinds.specs.declared.edge.Edge.{Edge}
use Rattle.kinds.specs.declared.edge.EdgeType.{EdgeType}
use Rattle.kinds.specs.declared.edge.EdgeType.TheVariants.{Jump, Normal, Backedge, NewFunction, Finalize, Error, Unreachable, Join}
use Rattle.kinds.specs.Replies.{row}
use Rattle.kinds.specs.declared.refusal.Refusal.{Refusal}
use Rattle.kinds.specs.declared.refusal.Refusal.TheVariants.{NoBlock}
use Rattle.store.specs.Edges.{has_edge}
use Rattle.store.specs.declared.direction.Direction.TheVariants.{Incoming}

pub record GraphState : Type 0 where
  pub marks : List Bool
  pub instructions : List BlockInstruction
  pub edges : List Edge

abbrev pub no_block : ℕ → GraphState → Option Refusal
no_block b g = row (nat_le (length g.marks) b) NoBlock None

abbrev pub empty : GraphState
empty = record { marks = []; instructions = []; edges = [] }

abbrev pub block_added : GraphState → GraphState
block_added g = record { marks = g.marks ++ false ∷ []; instructions = g.instructions; edges = g.edges }

abbrev pub instruction_added : ℕ → Instruction → GraphState → GraphState
instruction_added b i g =
    record { marks = g.marks; instructions = g.instructions ++ record { block = b; instruction = i } ∷ []; edges = g.edges }

abbrev pub mark_set : ℕ → Bool → GraphState → GraphState
mark_set b m g = record { marks = slice_set g.marks b m; instructions = g.instructions; edges = g.edges }

abbrev pub is_unreachable : InstructionKind → Bool
is_unreachable instruction.Unreachable = true
is_unreachable instruction.Statement = false
is_unreachable instruction.ImplicitReturn = false
is_unreachable (instruction.Return r) = false
is_unreachable (instruction.Break l) = false
is_unreachable (instruction.Continue l) = false
is_unreachable instruction.Throw = false
is_unreachable instruction.Condition = false
is_unreachable (instruction.Iteration i) = false

abbrev pub instructions_in : ℕ → List BlockInstruction → List Instruction
instructions_in b is = map (λ i. i.instruction) (filter (λ i. i.block == b) is)

-- whether the block b holds an Unreachable instruction
abbrev pub holds_unreachable : ℕ → List BlockInstruction → Bool
holds_unreachable b is = list_any (λ i. i.block == b && is_unreachable i.instruction.kind) is

-- the mark that a way control never takes leaves: unreachable, where no edge came in before
abbrev pub never_taken : Bool → Bool → Bool
never_taken fed old = cond fed old true

-- the mark that any other way leaves, by whether its source is marked: reachable, unless the block holds an Unreachable instruction
abbrev pub taken_from : Bool → Bool → Bool → Bool → Bool
taken_from off fed held old = cond off (never_taken fed old) (cond held old false)

-- the mark of an edge's target: by the edge's kind, whether its source is marked unreachable, whether an edge came into its target before,
-- whether its target holds an Unreachable instruction, and its target's mark so far
abbrev pub mark_after : EdgeType → Bool → Bool → Bool → Bool → Bool
mark_after NewFunction off fed held old = false
mark_after Unreachable off fed held old = never_taken fed old
mark_after Jump off fed held old = taken_from off fed held old
mark_after Normal off fed held old = taken_from off fed held old
mark_after Backedge off fed held old = taken_from off fed held old
mark_after Finalize off fed held old = taken_from off fed held old
mark_after (Error e) off fed held old = taken_from off fed held old
mark_after Join off fed held old = taken_from off fed held old

abbrev pub target_mark : ℕ → ℕ → EdgeType → GraphState → Bool
target_mark a b k g =
    mark_after k (slice_index_or g.marks a false) (has_edge Incoming b g.edges) (holds_unreachable b g.instructions) (slice_index_or g.marks b false)

abbrev pub target_marked : ℕ → ℕ → EdgeType → GraphState → GraphState
target_marked a b k g = mark_set b (target_mark a b k g) g

abbrev pub edge_added : ℕ → ℕ → EdgeType → GraphState → GraphState
edge_added a b k g = record {
  marks = (target_marked a b k g).marks;
  instructions = g.instructions;
  edges = g.edges ++ record { source = a; target = b; kind = k } ∷ [];
}

pub record Grown (n e i : ℕ) (g h : GraphState) : Type 0 where
  pub marks : length h.marks ≡ length g.marks + n
  pub edges : length h.edges ≡ length g.edges + e
  pub instructions : length h.instructions ≡ length g.instructions + i
