-- The builder's book: what it holds, which calls it refuses, what the others do and reply. Assumes nothing.
--
--   Book              the text, the state of the block builder, the open contexts, and four counts
--   given             how many breaks and continues were accepted
--   unfiled           how many of them found no context
--   drawn             how many got their Jump edge when their context was resolved; untargeted: how many had no target then
--   new_book text     the book of a new builder
--   refusal k c       why the call c is refused on the book k, none where it is accepted; its rows are tried from the top
--   done k c          the book after an accepted call
--   reply k c         and its reply
--   step k c          the book after any call; answer k c: its reply; run cs k: the book after a list of calls
--   Follows c x k t r the call c on the book k, which leaves t and replies r, does what the book says; x is its reply where it is accepted
use Rattle.std.specs.Prelude.{◌≡◌, ℕ, ◌+◌, Bool, true, false, not, ◌&&◌, ◌||◌, List, [], ◌∷◌, length, is_some, Some, None, Option, Result, nat_lt}
use Rattle.std.specs.Option.{option_or}
use Rattle.block_builder.specs.BlockState as state
use Rattle.block_builder.specs.BlockState.{BlockState, no_block, block_count, count_of}
use Rattle.book.specs.declared.call.Call.{Call}
use Rattle.book.specs.declared.call.Call.TheVariants as call
use Rattle.book.specs.declared.reply.Reply.{Reply}
use Rattle.book.specs.declared.reply.Reply.TheVariants.{Refused, Done, Block, Found, Resolved, Tallied}
use Rattle.book.specs.declared.reply.Tally.{Tally}
use Rattle.contexts.specs.Contexts.{Context, label_fits, found, target_at, with_target, with_entry, with_flag, opened, changed_at, top_number, top_flags, top_continue, below_top, upper_label, resolve_counts, top_drawn, waiting_count}
use Rattle.kinds.specs.Flags.{no_flags}
use Rattle.kinds.specs.Replies.{row, after, told}
use Rattle.kinds.specs.declared.block.InstructionKind.{InstructionKind}
use Rattle.kinds.specs.declared.block.InstructionKind.TheVariants as instruction
use Rattle.kinds.specs.declared.block.LabeledInstruction.{LabeledInstruction}
use Rattle.kinds.specs.declared.block.LabeledInstruction.TheVariants as form
use Rattle.kinds.specs.declared.context.CtxFlags.{CtxFlags}
use Rattle.kinds.specs.declared.context.EntryKind.{EntryKind}
use Rattle.kinds.specs.declared.context.EntryKind.TheVariants as entry
use Rattle.kinds.specs.declared.context.Label.{Label}
use Rattle.kinds.specs.declared.refusal.Refusal.{Refusal}
use Rattle.kinds.specs.declared.refusal.Refusal.TheVariants.{NoBlock, BadLabel, NoContext, Flags, Marked, Full}
use Rattle.kinds.specs.declared.table.Table.TheVariants.{Contexts, Entries, Given}

pub record Book : Type 0 where
  pub text : List ℕ
  pub blocks : BlockState
  pub contexts : List Context
  pub given : ℕ
  pub unfiled : ℕ
  pub drawn : ℕ
  pub untargeted : ℕ

-- the book of a new builder
abbrev pub new_book : List ℕ → Book
new_book t = record { text = t; blocks = state.initial; contexts = []; given = 0; unfiled = 0; drawn = 0; untargeted = 0 }

abbrev pub with_blocks : BlockState → Book → Book
with_blocks d k = record {
  text = k.text;
  blocks = d;
  contexts = k.contexts;
  given = k.given;
  unfiled = k.unfiled;
  drawn = k.drawn;
  untargeted = k.untargeted;
}

abbrev pub with_contexts : List Context → Book → Book
with_contexts cs k = record {
  text = k.text;
  blocks = k.blocks;
  contexts = cs;
  given = k.given;
  unfiled = k.unfiled;
  drawn = k.drawn;
  untargeted = k.untargeted;
}

-- the rows of FULL for the open contexts, for the waiting entries and for the breaks and continues given
abbrev pub contexts_full : Book → Option Refusal
contexts_full k = row (nat_lt 64 (length k.contexts + 1)) (Full Contexts) None

abbrev pub entries_full : ℕ → Book → Option Refusal
entries_full n k = row (nat_lt 512 (waiting_count k.contexts + n)) (Full Entries) (row (nat_lt 65535 (k.given + 1)) (Full Given) None)

abbrev pub bad_label : Option Label → Book → Bool
bad_label l k = not (label_fits k.text l)

-- the number of the context that a break or continue is filed in
abbrev pub context_for : EntryKind → Option Label → Book → Option ℕ
context_for j l k = found k.text j l k.contexts

-- a break or continue given from block b, in the context found or in none
abbrev pub filed : EntryKind → ℕ → Option ℕ → Book → Book
filed j b None k = record {
  text = k.text;
  blocks = k.blocks;
  contexts = k.contexts;
  given = k.given + 1;
  unfiled = k.unfiled + 1;
  drawn = k.drawn;
  untargeted = k.untargeted;
}
filed j b (Some i) k = record {
  text = k.text;
  blocks = k.blocks;
  contexts = changed_at (with_entry j b) i k.contexts;
  given = k.given + 1;
  unfiled = k.unfiled;
  drawn = k.drawn;
  untargeted = k.untargeted;
}

abbrev pub file_refusal : EntryKind → Option Label → Book → Option Refusal
file_refusal j l k =
    row (no_block k.blocks.current k.blocks) NoBlock (row (bad_label l k) BadLabel (entries_full (count_of (context_for j l k)) k))

abbrev pub no_context : List Context → Bool
no_context [] = true
no_context (c ∷ cs) = false

abbrev pub file_on_top_refusal : Book → Option Refusal
file_on_top_refusal k = row (no_block k.blocks.current k.blocks) NoBlock (row (no_context k.contexts) NoContext (entries_full 1 k))

-- append_break and append_continue
abbrev pub labeled : Option Label → LabeledInstruction
labeled None = form.Unlabeled
labeled (Some l) = form.Labeled

abbrev pub instruction_of : EntryKind → Option Label → InstructionKind
instruction_of entry.Break l = instruction.Break (labeled l)
instruction_of entry.Continue l = instruction.Continue (labeled l)

abbrev pub append_refusal : EntryKind → Option Label → Book → Option Refusal
append_refusal j l k =
    row (no_block k.blocks.current k.blocks) NoBlock
    (row (bad_label l k) BadLabel
    (option_or (state.append_full 2 k.blocks) (entries_full (count_of (context_for j l k)) k)))

abbrev pub jump_appended : EntryKind → ℕ → Option Label → Book → Book
jump_appended j n l k =
    filed j k.blocks.current (context_for j l k) (with_blocks (state.terminator_appended (instruction_of j l) (Some n) k.blocks) k)

-- new, default and new_function
abbrev pub function_flags : CtxFlags
function_flags = record { function = true; breaks = false; continues = false }

abbrev pub context_refusal : Option Label → Book → Option Refusal
context_refusal l k = row (bad_label l k) BadLabel (contexts_full k)

abbrev pub context_opened : Option Label → CtxFlags → Book → Book
context_opened l f k = with_contexts (opened f l ∷ k.contexts) k

-- mark_break and mark_continue
abbrev pub targeted : EntryKind → ℕ → Option ℕ → Book → Book
targeted j t None k = k
targeted j t (Some i) k = with_contexts (changed_at (with_target j t) i k.contexts) k

abbrev pub is_marked : EntryKind → Option ℕ → Book → Bool
is_marked j None k = false
is_marked j (Some i) k = is_some (target_at j i k.contexts)

abbrev pub mark_refusal : EntryKind → Option Label → ℕ → Book → Option Refusal
mark_refusal j l t k =
    row (no_block t k.blocks) NoBlock (row (bad_label l k) BadLabel (row (is_marked j (context_for j l k) k) Marked None))

abbrev pub mark_on_top_refusal : EntryKind → ℕ → Book → Option Refusal
mark_on_top_refusal j t k =
    row (no_block t k.blocks) NoBlock (row (no_context k.contexts) NoContext (row (is_marked j (top_number k.contexts) k) Marked None))

-- allow_break and allow_continue
abbrev pub allowed : EntryKind → Option ℕ → Book → Book
allowed j None k = k
allowed j (Some i) k = with_contexts (changed_at (with_flag j) i k.contexts) k

-- resolve: pops the topmost context and draws its entries
abbrev pub resolve_full : Option (ℕ × ℕ) → BlockState → Option Refusal
resolve_full None d = None
resolve_full (Some n) d = state.first_full (record { blocks = 0; edges = n.0; instructions = 0; harnesses = 0; finalizers = 0 }) d

abbrev pub resolve_refusal : Book → Option Refusal
resolve_refusal k = resolve_full (resolve_counts k.contexts) k.blocks

abbrev pub resolved_by : Option (ℕ × ℕ) → Book → Book
resolved_by None k = k
resolved_by (Some n) k = record {
  text = k.text;
  blocks = state.with_graph (top_drawn k.contexts k.blocks.graph) k.blocks;
  contexts = below_top k.contexts;
  given = k.given;
  unfiled = k.unfiled;
  drawn = k.drawn + n.0;
  untargeted = k.untargeted + n.1;
}

abbrev pub resolved : Book → Book
resolved k = resolved_by (resolve_counts k.contexts) k

-- resolve_expect: a flag beyond those expected
abbrev pub beyond : CtxFlags → CtxFlags → Bool
beyond f e = (f.function && not e.function) || ((f.breaks && not e.breaks) || (f.continues && not e.continues))

abbrev pub expect_refusal : CtxFlags → Option CtxFlags → Option Refusal → Option Refusal
expect_refusal e None rest = Some NoContext
expect_refusal e (Some f) rest = row (beyond f e) Flags rest

-- a continue target given to the context of a number; with no target or no number nothing changes
abbrev pub continue_given : Option ℕ → Option ℕ → List Context → List Context
continue_given None o cs = cs
continue_given (Some t) None cs = cs
continue_given (Some t) (Some i) cs = changed_at (with_target entry.Continue t) i cs

-- resolve_with_upper_label: the popped continue target goes to the new top, if that is labelled and has none
abbrev pub resolved_upper : Book → Book
resolved_upper k =
    with_contexts (continue_given (top_continue k.contexts) (upper_label (resolved k).contexts) (resolved k).contexts) (resolved k)

abbrev pub tally_of : Book → Tally
tally_of k =
    record { given = k.given; unfiled = k.unfiled; waiting = waiting_count k.contexts; drawn = k.drawn; untargeted = k.untargeted }

abbrev pub refusal : Book → Call → Option Refusal
refusal k (call.AttachErrorHarness e) = state.harness_refusal k.blocks
refusal k (call.ReleaseErrorHarness b) = state.harness_release_refusal b k.blocks
refusal k call.AttachFinalizer = state.finalizer_refusal k.blocks
refusal k (call.ReleaseFinalizer b) = state.finalizer_release_refusal b k.blocks
refusal k call.PushFinalizationStack = state.mark_refusal k.blocks
refusal k call.PopFinalizationStack = state.mark_pop_refusal k.blocks
refusal k call.NewBasicBlockNormal = state.normal_refusal k.blocks
refusal k call.NewBasicBlockFunction = state.normal_refusal k.blocks
refusal k call.Current = None
refusal k (call.SetCurrent b) = state.block_refusal b k.blocks
refusal k (call.MarkAsReachable b) = state.block_refusal b k.blocks
refusal k (call.MarkAsUnreachable b) = state.block_refusal b k.blocks
refusal k (call.AddEdge a b e) = state.edge_refusal a b k.blocks
refusal k (call.PushStatement n) = state.current_refusal k.blocks
refusal k (call.EnterStatement n) = state.current_refusal k.blocks
refusal k (call.PushReturn r n) = state.current_refusal k.blocks
refusal k call.PushImplicitReturn = state.current_refusal k.blocks
refusal k (call.AppendIteration n i) = state.current_refusal k.blocks
refusal k (call.AppendConditionTo b n) = state.instruction_refusal b k.blocks
refusal k call.AppendUnreachable = state.append_refusal 1 k.blocks
refusal k (call.AppendThrow n) = state.append_refusal 2 k.blocks
refusal k (call.Append j n l) = append_refusal j l k
refusal k (call.New l f) = context_refusal l k
refusal k (call.Default l) = context_refusal l k
refusal k (call.NewFunction l) = context_refusal l k
refusal k (call.File j l) = file_refusal j l k
refusal k (call.FileOnTop j) = file_on_top_refusal k
refusal k (call.Mark j l t) = mark_refusal j l t k
refusal k (call.MarkOnTop j t) = mark_on_top_refusal j t k
refusal k (call.Allow j) = row (no_context k.contexts) NoContext None
refusal k call.Resolve = resolve_refusal k
refusal k (call.ResolveExpect e) = expect_refusal e (top_flags k.contexts) (resolve_refusal k)
refusal k call.ResolveWithUpperLabel = resolve_refusal k
refusal k call.Tally = None

abbrev pub done : Book → Call → Book
done k (call.AttachErrorHarness e) = with_blocks (state.harness_attached e k.blocks) k
done k (call.ReleaseErrorHarness b) = with_blocks (state.harness_released k.blocks) k
done k call.AttachFinalizer = with_blocks (state.finalizer_attached k.blocks) k
done k (call.ReleaseFinalizer b) = with_blocks (state.finalizer_released k.blocks) k
done k call.PushFinalizationStack = with_blocks (state.mark_pushed k.blocks) k
done k call.PopFinalizationStack = with_blocks (state.finalizer_released k.blocks) k
done k call.NewBasicBlockNormal = with_blocks (state.normal_made k.blocks) k
done k call.NewBasicBlockFunction = with_blocks (state.normal_made k.blocks) k
done k call.Current = k
done k (call.SetCurrent b) = with_blocks (state.with_current b k.blocks) k
done k (call.MarkAsReachable b) = with_blocks (state.marked b false k.blocks) k
done k (call.MarkAsUnreachable b) = with_blocks (state.marked b true k.blocks) k
done k (call.AddEdge a b e) = with_blocks (state.linked a b e k.blocks) k
done k (call.PushStatement n) = with_blocks (state.current_pushed instruction.Statement (Some n) k.blocks) k
done k (call.EnterStatement n) = with_blocks (state.current_pushed instruction.Statement (Some n) k.blocks) k
done k (call.PushReturn r n) = with_blocks (state.current_pushed (instruction.Return r) n k.blocks) k
done k call.PushImplicitReturn = with_blocks (state.current_pushed instruction.ImplicitReturn None k.blocks) k
done k (call.AppendIteration n i) = with_blocks (state.current_pushed (instruction.Iteration i) n k.blocks) k
done k (call.AppendConditionTo b n) = with_blocks (state.instruction_pushed b instruction.Condition n k.blocks) k
done k call.AppendUnreachable = with_blocks (state.unreachable_appended k.blocks) k
done k (call.AppendThrow n) = with_blocks (state.terminator_appended instruction.Throw (Some n) k.blocks) k
done k (call.Append j n l) = jump_appended j n l k
done k (call.New l f) = context_opened l f k
done k (call.Default l) = context_opened l no_flags k
done k (call.NewFunction l) = context_opened l function_flags k
done k (call.File j l) = filed j k.blocks.current (context_for j l k) k
done k (call.FileOnTop j) = filed j k.blocks.current (top_number k.contexts) k
done k (call.Mark j l t) = targeted j t (context_for j l k) k
done k (call.MarkOnTop j t) = targeted j t (top_number k.contexts) k
done k (call.Allow j) = allowed j (top_number k.contexts) k
done k call.Resolve = resolved k
done k (call.ResolveExpect e) = resolved k
done k call.ResolveWithUpperLabel = resolved_upper k
done k call.Tally = k

abbrev pub reply : Book → Call → Reply
reply k (call.AttachErrorHarness e) = Block (block_count k.blocks)
reply k (call.ReleaseErrorHarness b) = Done
reply k call.AttachFinalizer = Block (block_count k.blocks)
reply k (call.ReleaseFinalizer b) = Done
reply k call.PushFinalizationStack = Done
reply k call.PopFinalizationStack = Done
reply k call.NewBasicBlockNormal = Block (block_count k.blocks)
reply k call.NewBasicBlockFunction = Block (block_count k.blocks)
reply k call.Current = Block k.blocks.current
reply k (call.SetCurrent b) = Done
reply k (call.MarkAsReachable b) = Done
reply k (call.MarkAsUnreachable b) = Done
reply k (call.AddEdge a b e) = Done
reply k (call.PushStatement n) = Done
reply k (call.EnterStatement n) = Done
reply k (call.PushReturn r n) = Done
reply k call.PushImplicitReturn = Done
reply k (call.AppendIteration n i) = Done
reply k (call.AppendConditionTo b n) = Done
reply k call.AppendUnreachable = Done
reply k (call.AppendThrow n) = Done
reply k (call.Append j n l) = Found (is_some (context_for j l k))
reply k (call.New l f) = Done
reply k (call.Default l) = Done
reply k (call.NewFunction l) = Done
reply k (call.File j l) = Found (is_some (context_for j l k))
reply k (call.FileOnTop j) = Found true
reply k (call.Mark j l t) = Found (is_some (context_for j l k))
reply k (call.MarkOnTop j t) = Found true
reply k (call.Allow j) = Found true
reply k call.Resolve = Resolved (resolve_counts k.contexts)
reply k (call.ResolveExpect e) = Resolved (resolve_counts k.contexts)
reply k call.ResolveWithUpperLabel = Resolved (resolve_counts k.contexts)
reply k call.Tally = Tallied (tally_of k)

-- what a refusal leaves of an answer
abbrev pub replied : Option Refusal → Reply → Reply
replied None a = a
replied (Some r) a = Refused r

abbrev pub step : Book → Call → Book
step k c = after (refusal k c) k (done k c)

abbrev pub answer : Book → Call → Reply
answer k c = replied (refusal k c) (reply k c)

abbrev pub run : List Call → Book → Book
run [] k = k
run (c ∷ cs) k = run cs (step k c)

-- the reply of a call that tells only whether it was refused, and that of a call that makes a block
abbrev pub no_reply : Book → Unit {0}
no_reply k = tt

abbrev pub new_block : Book → ℕ
new_block k = block_count k.blocks

-- whether a context is found, the reply of a call on the topmost one, and that of a resolve
abbrev pub found_for : EntryKind → Option Label → Book → Bool
found_for j l k = is_some (context_for j l k)

abbrev pub yes : Book → Bool
yes k = true

abbrev pub counts_of : Book → Option (ℕ × ℕ)
counts_of k = resolve_counts k.contexts

pub record Follows {A : Type 0} (c : Call) (reply : Book → A) (k t : Book) (r : Result A Refusal) : Type 0 where
  pub book : t ≡ step k c
  pub answer : r ≡ told (refusal k c) (reply k)
