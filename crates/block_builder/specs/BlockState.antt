-- The calls of the builder that need no context: when each is refused, and what it does. Assumes nothing.
--
--   BlockState                 the graph, the current block, and the two stacks, the newest last
--   harnesses                  blocks that errors lead to; a new block gets an Error edge to the newest
--   finalizers                 blocks that a new block gets a Finalize edge to, or empty marks that keep it from getting one
--   Performs why done x s t r  a call on the state s, which leaves t and replies r: where why refuses it nothing changes and the refusal
--                              is told, else the state is done and the reply is x; the blocks get no fewer
--   .._refusal                 the rows of a call's refusals, tried from the top
--   Room                       how many more blocks, edges and so on a call needs
--   first_full n s             FULL with the first table of s that has no room for what is needed, none where all have
use Rattle.std.specs.Prelude.{◌≡◌, ℕ, suc, ◌+◌, ◌-◌, ◌<◌, ◌≤◌, Bool, true, false, not, ◌||◌, List, [], ◌∷◌, ◌++◌, length, take, Some, None, Option, Result, MatchOption, ◌==◌, nat_lt}
use Rattle.std.specs.List.{slice_get}
use Rattle.std.specs.Option.{option_flatten}
use Rattle.block_builder.specs.declared.block_builder.append.Ties.{Ties}
use Rattle.block_builder.specs.declared.harness.ErrorHarness.{ErrorHarness}
use Rattle.block_builder.specs.declared.room.Room.{Room}
use Rattle.blocks.specs.Blocks.{GraphState, empty, edge_added, block_added, instruction_added, mark_set}
use Rattle.kinds.specs.Replies.{row, after, told}
use Rattle.kinds.specs.declared.block.InstructionKind.{InstructionKind}
use Rattle.kinds.specs.declared.block.InstructionKind.TheVariants as instruction
use Rattle.kinds.specs.declared.edge.EdgeType.{EdgeType}
use Rattle.kinds.specs.declared.edge.EdgeType.TheVariants as edge
use Rattle.kinds.specs.declared.edge.ErrorEdgeKind.{ErrorEdgeKind}
use Rattle.kinds.specs.declared.refusal.Refusal.{Refusal}
use Rattle.kinds.specs.declared.refusal.Refusal.TheVariants.{NoBlock, NoHarness, NotTop, Full}
use Rattle.kinds.specs.declared.table.Table.TheVariants.{Blocks, Edges, Instructions, Harnesses, Finalizers}

pub record BlockState : Type 0 where
  pub graph : GraphState
  pub current : ℕ
  pub harnesses : List ErrorHarness
  pub finalizers : List (Option ℕ)

-- no block, and block 0 current although there is none
abbrev pub initial : BlockState
initial = record { graph = empty; current = 0; harnesses = []; finalizers = [] }

abbrev pub block_count : BlockState → ℕ
block_count s = length s.graph.marks

-- the reply of a call that tells only whether it was refused
abbrev pub nothing : BlockState → Unit {0}
nothing s = tt

pub record Performs {A : Type 0} (why : BlockState → Option Refusal) (done : BlockState → BlockState) (reply : BlockState → A)
    (s t : BlockState) (r : Result A Refusal) : Type 0 where
  pub state : t ≡ after (why s) s (done s)
  pub answer : r ≡ told (why s) (reply s)
  pub grows : block_count s ≤ block_count t

abbrev pub no_block : ℕ → BlockState → Bool
no_block b s = not (nat_lt b (block_count s))

abbrev pub first_full : Room → BlockState → Option Refusal
first_full n s =
    row (nat_lt 512 (block_count s + n.blocks)) (Full Blocks)
    (row (nat_lt 2048 (length s.graph.edges + n.edges)) (Full Edges)
    (row (nat_lt 2048 (length s.graph.instructions + n.instructions)) (Full Instructions)
    (row (nat_lt 64 (length s.harnesses + n.harnesses)) (Full Harnesses)
    (row (nat_lt 64 (length s.finalizers + n.finalizers)) (Full Finalizers) None))))

-- what holds where all tables have room
pub record Fits (n : Room) (s : BlockState) : Type 0 where
  pub blocks : block_count s + n.blocks ≤ 512
  pub edges : length s.graph.edges + n.edges ≤ 2048
  pub instructions : length s.graph.instructions + n.instructions ≤ 2048
  pub harnesses : length s.harnesses + n.harnesses ≤ 64
  pub finalizers : length s.finalizers + n.finalizers ≤ 64

-- the newest of a stack, and the stack without it
abbrev pub last_of : {X : Type 0} → List X → Option X
last_of xs = slice_get xs (length xs - 1)

abbrev pub without_last : {X : Type 0} → List X → List X
without_last xs = take (length xs - 1) xs

abbrev pub with_graph : GraphState → BlockState → BlockState
with_graph g s = record { graph = g; current = s.current; harnesses = s.harnesses; finalizers = s.finalizers }

abbrev pub with_current : ℕ → BlockState → BlockState
with_current b s = record { graph = s.graph; current = b; harnesses = s.harnesses; finalizers = s.finalizers }

abbrev pub with_harnesses : List ErrorHarness → BlockState → BlockState
with_harnesses hs s = record { graph = s.graph; current = s.current; harnesses = hs; finalizers = s.finalizers }

abbrev pub with_finalizers : List (Option ℕ) → BlockState → BlockState
with_finalizers fs s = record { graph = s.graph; current = s.current; harnesses = s.harnesses; finalizers = fs }

-- a named block: set_current, mark_as_reachable and mark_as_unreachable
abbrev pub block_refusal : ℕ → BlockState → Option Refusal
block_refusal b s = row (no_block b s) NoBlock None

abbrev pub marked : ℕ → Bool → BlockState → BlockState
marked b m s = with_graph (mark_set b m s.graph) s

-- add_edge
abbrev pub edge_refusal : ℕ → ℕ → BlockState → Option Refusal
edge_refusal a b s =
    row (no_block a s || no_block b s) NoBlock (first_full (record { blocks = 0; edges = 1; instructions = 0; harnesses = 0; finalizers = 0 }) s)

abbrev pub linked : ℕ → ℕ → EdgeType → BlockState → BlockState
linked a b k s = with_graph (edge_added a b k s.graph) s

-- one instruction more, in a named block or in the current one
abbrev pub instruction_refusal : ℕ → BlockState → Option Refusal
instruction_refusal b s =
    row (no_block b s) NoBlock (first_full (record { blocks = 0; edges = 0; instructions = 1; harnesses = 0; finalizers = 0 }) s)

abbrev pub instruction_pushed : ℕ → InstructionKind → Option ℕ → BlockState → BlockState
instruction_pushed b k n s = with_graph (instruction_added b (record { kind = k; node_id = n }) s.graph) s

abbrev pub current_refusal : BlockState → Option Refusal
current_refusal s = instruction_refusal s.current s

abbrev pub current_pushed : InstructionKind → Option ℕ → BlockState → BlockState
current_pushed k n s = instruction_pushed s.current k n s

-- attach_error_harness
abbrev pub harness_refusal : BlockState → Option Refusal
harness_refusal s = first_full (record { blocks = 1; edges = 0; instructions = 0; harnesses = 1; finalizers = 0 }) s

abbrev pub harness_attached : ErrorEdgeKind → BlockState → BlockState
harness_attached k s = record {
  graph = block_added s.graph;
  current = s.current;
  harnesses = s.harnesses ++ record { kind = k; block = block_count s } ∷ [];
  finalizers = s.finalizers;
}

-- release_error_harness
abbrev pub harness_mismatch : ℕ → Option ErrorHarness → Option Refusal
harness_mismatch b None = Some NoHarness
harness_mismatch b (Some h) = row (not (h.block == b)) NotTop None

abbrev pub harness_release_refusal : ℕ → BlockState → Option Refusal
harness_release_refusal b s = row (no_block b s) NoBlock (harness_mismatch b (last_of s.harnesses))

abbrev pub harness_released : BlockState → BlockState
harness_released s = with_harnesses (without_last s.harnesses) s

-- attach_finalizer
abbrev pub finalizer_refusal : BlockState → Option Refusal
finalizer_refusal s = first_full (record { blocks = 1; edges = 0; instructions = 0; harnesses = 0; finalizers = 1 }) s

abbrev pub finalizer_attached : BlockState → BlockState
finalizer_attached s = record {
  graph = block_added s.graph;
  current = s.current;
  harnesses = s.harnesses;
  finalizers = s.finalizers ++ Some (block_count s) ∷ [];
}

-- release_finalizer: an empty mark is another than any block, and an empty stack is no refusal
abbrev pub is_other : ℕ → Option ℕ → Bool
is_other b None = true
is_other b (Some f) = not (f == b)

abbrev pub finalizer_mismatch : ℕ → Option (Option ℕ) → Option Refusal
finalizer_mismatch b None = None
finalizer_mismatch b (Some top) = row (is_other b top) NotTop None

abbrev pub finalizer_release_refusal : ℕ → BlockState → Option Refusal
finalizer_release_refusal b s = row (no_block b s) NoBlock (finalizer_mismatch b (last_of s.finalizers))

abbrev pub finalizer_released : BlockState → BlockState
finalizer_released s = with_finalizers (without_last s.finalizers) s

-- push_finalization_stack and pop_finalization_stack
abbrev pub mark_refusal : BlockState → Option Refusal
mark_refusal s = first_full (record { blocks = 0; edges = 0; instructions = 0; harnesses = 0; finalizers = 1 }) s

abbrev pub mark_pushed : BlockState → BlockState
mark_pushed s = with_finalizers (s.finalizers ++ None ∷ []) s

abbrev pub lacks_mark : Option (Option ℕ) → Bool
lacks_mark None = true
lacks_mark (Some None) = false
lacks_mark (Some (Some b)) = true

abbrev pub mark_pop_refusal : BlockState → Option Refusal
mark_pop_refusal s = row (lacks_mark (last_of s.finalizers)) NotTop None

-- the finalizer on top, if that is a block
abbrev pub finalizer_of : List (Option ℕ) → Option ℕ
finalizer_of fs = option_flatten (last_of fs)

-- 1 for a block, 0 for none
abbrev pub count_of : Option ℕ → ℕ
count_of None = 0
count_of (Some b) = 1

-- a block with its edges to the harness h and, if there is one, to the finalizer f, current at once
abbrev pub finalize_added : ℕ → Option ℕ → GraphState → GraphState
finalize_added n None g = g
finalize_added n (Some f) g = edge_added n f edge.Finalize g

abbrev pub block_made : ErrorHarness → Option ℕ → BlockState → BlockState
block_made h f s = record {
  graph = finalize_added (block_count s) f (edge_added (block_count s) h.block (edge.Error h.kind) (block_added s.graph));
  current = block_count s;
  harnesses = s.harnesses;
  finalizers = s.finalizers;
}

-- a new block that takes e edges beside that to its finalizer f, and i instructions, tied to the newest harness
abbrev pub block_room : ℕ → ℕ → Option ℕ → Room
block_room e i f = record { blocks = 1; edges = e + count_of f; instructions = i; harnesses = 0; finalizers = 0 }

abbrev pub block_full_by : Option ErrorHarness → ℕ → ℕ → BlockState → Option Refusal
block_full_by None e i s = Some NoHarness
block_full_by (Some h) e i s = first_full (block_room e i (finalizer_of s.finalizers)) s

abbrev pub block_full : ℕ → ℕ → BlockState → Option Refusal
block_full e i s = block_full_by (last_of s.harnesses) e i s

-- the newest harness and finalizer, where there are a harness and room for such a block
pub record Tied (e i : ℕ) (s : BlockState) (t : Ties) : Type 0 where
  pub harness : last_of s.harnesses ≡ Some t.harness
  pub finalizer : t.finalizer ≡ finalizer_of s.finalizers
  pub harness_known : t.harness.block < block_count s
  pub finalizer_known : MatchOption t.finalizer (⊥ → ⊥) (λ b. b < block_count s)
  pub fits : Fits (block_room e i t.finalizer) s

-- new_basic_block_normal
abbrev pub normal_refusal : BlockState → Option Refusal
normal_refusal s = block_full 1 0 s

abbrev pub normal_made_by : Option ErrorHarness → BlockState → BlockState
normal_made_by None s = s
normal_made_by (Some h) s = block_made h (finalizer_of s.finalizers) s

abbrev pub normal_made : BlockState → BlockState
normal_made s = normal_made_by (last_of s.harnesses) s

-- append_unreachable: a normal block that holds an Unreachable instruction and is marked, with an Unreachable edge from the block that was current
abbrev pub unreachable_graph : ℕ → ℕ → GraphState → GraphState
unreachable_graph old n g =
    edge_added old n edge.Unreachable (mark_set n true (instruction_added n (record { kind = instruction.Unreachable; node_id = None }) g))

abbrev pub unreachable_made : ErrorHarness → Option ℕ → BlockState → BlockState
unreachable_made h f s = with_graph (unreachable_graph s.current (block_count s) (block_made h f s).graph) (block_made h f s)

abbrev pub unreachable_made_by : Option ErrorHarness → BlockState → BlockState
unreachable_made_by None s = s
unreachable_made_by (Some h) s = unreachable_made h (finalizer_of s.finalizers) s

abbrev pub unreachable_appended : BlockState → BlockState
unreachable_appended s = unreachable_made_by (last_of s.harnesses) s

-- i is how many instructions the whole call adds
abbrev pub append_full : ℕ → BlockState → Option Refusal
append_full i s = block_full 2 i s

abbrev pub append_refusal : ℕ → BlockState → Option Refusal
append_refusal i s = row (no_block s.current s) NoBlock (append_full i s)

-- an instruction that ends the current block (throw, break, continue), then append_unreachable
abbrev pub terminator_appended : InstructionKind → Option ℕ → BlockState → BlockState
terminator_appended k n s = unreachable_appended (current_pushed k n s)

-- one more than the block of a harness
abbrev pub above_harness : ErrorHarness → ℕ
above_harness h = suc h.block
