-- The examples of the rules, as a table: a record for each subject, a field for each example. Assumes nothing.
--
--   Examples   all of them; those of a subject stand in the record of its name
use Rattle.std.specs.Prelude.{◌≡◌, true, false, [], ◌∷◌, length, Some, None}
use Rattle.book.specs.Book.{answer, run, step}
use Rattle.book.specs.declared.call.Call.TheVariants as call
use Rattle.book.specs.declared.reply.Reply.TheVariants.{Done, Block, Found, Resolved}
use Rattle.kinds.specs.declared.block.InstructionKind.TheVariants as instruction
use Rattle.kinds.specs.declared.edge.EdgeType.TheVariants as edge
use Rattle.kinds.specs.declared.edge.ErrorEdgeKind.TheVariants.{Implicit}
use Rattle.walk.specs.declared.event.DfsEvent.TheVariants.{Discover, TreeEdge, Finish}
use Rattle.examples.specs.Questions.{refusal_number, blocks_in, edges_in, contents, is_marked, reaches, has_cycle, events_from}
use Rattle.examples.specs.Scripts.{statement, harness, normal, unlabelled_break, at, context, break_to, new, lettered, two_blocks, left_by_break, in_context, resolved, waiting_for_a, forked, looped}

-- A statement wants a block to go into.
pub record Statement : Type 0 where
  -- a new builder has none: refused with 1, NO_BLOCK
  pub refused : refusal_number (answer new statement) ≡ Some 1
  -- after attach_error_harness it is accepted
  pub accepted : answer (step new harness) statement ≡ Done
  -- and stands in block 0
  pub stands : contents (run (harness ∷ statement ∷ []) new) 0 ≡ record { kind = instruction.Statement; node_id = Some 7 } ∷ []

-- A normal block wants a harness for its errors.
pub record NormalBlock : Type 0 where
  -- a new builder has none: refused with 3, NO_HARNESS
  pub refused : refusal_number (answer new normal) ≡ Some 3
  -- and no block is made
  pub none_made : blocks_in (step new normal) ≡ 0
  -- beside the harness 0 it is block 1
  pub numbered : answer (step new harness) normal ≡ Block 1
  -- there is one edge then, from it to the harness
  pub one_edge : edges_in two_blocks ≡ record { source = 1; target = 0; kind = edge.Error Implicit } ∷ []
  -- so it reaches the harness
  pub reaches_harness : reaches two_blocks 1 0 ≡ true
  -- the harness does not reach it
  pub not_back : reaches two_blocks 0 1 ≡ false
  -- and a block reaches itself
  pub itself : reaches two_blocks 0 0 ≡ true

-- A break with no context open is unfiled, and what follows it is unreachable.
pub record UnfiledBreak : Type 0 where
  -- it finds none
  pub none_found : answer two_blocks unlabelled_break ≡ Found false
  -- it is counted as unfiled
  pub unfiled : left_by_break.unfiled ≡ 1
  -- block 2, which follows it, is marked unreachable
  pub marked : is_marked left_by_break 2 ≡ true
  -- and the block that it leaves, 1, does not reach that
  pub not_reached : reaches left_by_break 1 2 ≡ false

-- A break in a context with BREAK is drawn to the break target when the context is resolved.
pub record DrawnBreak : Type 0 where
  -- it finds the context
  pub found : answer (step two_blocks (context None)) unlabelled_break ≡ Found true
  -- resolve draws one, and none lacks a target
  pub drawn : answer in_context call.Resolve ≡ Resolved (Some (1, 0))
  -- there are five edges then
  pub five_edges : length (edges_in resolved) ≡ 5
  -- and the block that the break leaves, 1, reaches its target, 3
  pub reached : reaches resolved 1 3 ≡ true

-- Two labels are the same where their bytes are, and a label ends within the text, here AxA.
pub record Labels : Type 0 where
  -- a break to 2:1 finds a context labelled 0:1: both are A
  pub same_bytes : answer waiting_for_a (break_to (at 2 1)) ≡ Found true
  -- a break to 1:1, which is x, does not
  pub other_bytes : answer waiting_for_a (break_to (at 1 1)) ≡ Found false
  -- 3:0 ends where the text does, and is accepted
  pub at_end : answer lettered (context (at 3 0)) ≡ Done
  -- 3:1 reaches past it: refused with 2, BAD_LABEL
  pub past_end : refusal_number (answer lettered (context (at 3 1))) ≡ Some 2

-- A walk that prunes nothing reads the newest edge first, and numbers each block as it is discovered and as it is finished.
pub record WalkOrder : Type 0 where
  -- the edge from 0 to 2 is newer than that from 0 to 1
  pub events : events_from forked 0 ≡ Discover 0 0 ∷ TreeEdge 0 2 ∷ Discover 2 1 ∷ Finish 2 2 ∷ TreeEdge 0 1 ∷ Discover 1 3 ∷ Finish 1 4 ∷ Finish 0 5 ∷ []

-- A cycle is asked over all listed neighbours, reach over permitted steps. The edge from 0 to 1 is Unreachable, the one back Normal.
pub record Permission : Type 0 where
  -- 0 lies on a cycle
  pub cycle : has_cycle looped 0 ≡ true
  -- but does not reach 1
  pub not_reached : reaches looped 0 1 ≡ false

pub record Examples : Type 0 where
  pub statement : Statement
  pub normal_block : NormalBlock
  pub unfiled_break : UnfiledBreak
  pub drawn_break : DrawnBreak
  pub labels : Labels
  pub walk_order : WalkOrder
  pub permission : Permission
