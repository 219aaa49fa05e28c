-- The calls of the examples, and the books that they leave. Assumes nothing.
--
--   statement, harness, normal, unlabelled_break   calls with their arguments
--   at o n             the label of n bytes from the offset o on
--   context l          the call that opens a context with BREAK and the label l
--   break_to l         the call that files a break from the current block, by the label l
--   new                the book of a new builder over no text; lettered: over the text AxA
--   two_blocks         after a harness, block 0, and a normal block, 1
--   left_by_break      then an unlabelled break with no context open, which makes block 2
--   in_context         instead a context with BREAK, the same break, and a block 3 marked as the break target
--   resolved           then that context resolved
--   waiting_for_a      over AxA: a harness, and a context with BREAK and the label 0:1
--   forked             three harnesses, and Normal edges from 0 to 1, then from 0 to 2
--   looped             two harnesses, an Unreachable edge from 0 to 1 and a Normal edge from 1 to 0
use Rattle.std.specs.Prelude.{ℕ, true, false, [], ◌∷◌, Some, None, codes, Option}
use Rattle.book.specs.Book.{Book, new_book, run}
use Rattle.book.specs.declared.call.Call.{Call}
use Rattle.book.specs.declared.call.Call.TheVariants as call
use Rattle.kinds.specs.declared.context.CtxFlags.{CtxFlags}
use Rattle.kinds.specs.declared.context.EntryKind.TheVariants.{Break}
use Rattle.kinds.specs.declared.context.Label.{Label}
use Rattle.kinds.specs.declared.edge.EdgeType.TheVariants as edge
use Rattle.kinds.specs.declared.edge.ErrorEdgeKind.TheVariants.{Implicit}

-- the calls; the syntax node is number 7
abbrev pub statement : Call
statement = call.PushStatement 7

abbrev pub harness : Call
harness = call.AttachErrorHarness Implicit

abbrev pub normal : Call
normal = call.NewBasicBlockNormal

abbrev pub unlabelled_break : Call
unlabelled_break = call.Append Break 7 None

abbrev pub break_flag : CtxFlags
break_flag = record { function = false; breaks = true; continues = false }

abbrev pub at : ℕ → ℕ → Option Label
at o n = Some (record { offset = o; length = n })

abbrev pub context : Option Label → Call
context l = call.New l break_flag

abbrev pub break_to : Option Label → Call
break_to l = call.File Break l

-- the books
abbrev pub new : Book
new = new_book []

abbrev pub lettered : Book
lettered = new_book (codes "AxA")

abbrev pub two_blocks : Book
two_blocks = run (harness ∷ normal ∷ []) new

abbrev pub left_by_break : Book
left_by_break = run (unlabelled_break ∷ []) two_blocks

abbrev pub in_context : Book
in_context = run (context None ∷ unlabelled_break ∷ normal ∷ call.Mark Break None 3 ∷ []) two_blocks

abbrev pub resolved : Book
resolved = run (call.Resolve ∷ []) in_context

abbrev pub waiting_for_a : Book
waiting_for_a = run (harness ∷ context (at 0 1) ∷ []) lettered

abbrev pub forked : Book
forked = run (harness ∷ harness ∷ harness ∷ call.AddEdge 0 1 edge.Normal ∷ call.AddEdge 0 2 edge.Normal ∷ []) new

abbrev pub looped : Book
looped = run (harness ∷ harness ∷ call.AddEdge 0 1 edge.Unreachable ∷ call.AddEdge 1 0 edge.Normal ∷ []) new
