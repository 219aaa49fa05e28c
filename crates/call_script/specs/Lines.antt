-- The lines of a call script that are calls on the builder. Assumes nothing.
--
--   block_calls ws         the calls on blocks, edges, harnesses and finalizers, by name, each made of the words ws
--   instruction_calls ws   the calls that add instructions
--   context_calls ws       the calls that open contexts or resolve them, and the tally
--   entry_calls ws         the calls that file breaks and continues, mark their targets or set their flags
--   call_of ws             the call that a line's words make
use Rattle.std.specs.Prelude.{ℕ, List, [], ◌∷◌, None, codes, Option}
use Rattle.std.specs.Option.{option_or}
use Rattle.book.specs.declared.call.Call.{Call}
use Rattle.book.specs.declared.call.Call.TheVariants as call
use Rattle.kinds.specs.declared.context.EntryKind.TheVariants.{Break, Continue}
use Rattle.line.specs.Arguments.{optional, of_none, of_one, of_two, of_three}
use Rattle.line.specs.Kinds.{error_named, edge_named, return_named, iteration_named}
use Rattle.line.specs.Contexts.{label_of, flags_of}
use Rattle.line.specs.Numbers.{number_of}
use Rattle.line.specs.Rows.{Row, named, chosen}

abbrev pub block_calls : List (List ℕ) → List (Row Call)
block_calls ws =
    named (codes "attach_error_harness") (of_one call.AttachErrorHarness error_named ws)
    ∷ named (codes "release_error_harness") (of_one call.ReleaseErrorHarness number_of ws)
    ∷ named (codes "attach_finalizer") (of_none call.AttachFinalizer ws)
    ∷ named (codes "release_finalizer") (of_one call.ReleaseFinalizer number_of ws)
    ∷ named (codes "push_finalization_stack") (of_none call.PushFinalizationStack ws)
    ∷ named (codes "pop_finalization_stack") (of_none call.PopFinalizationStack ws)
    ∷ named (codes "new_basic_block_normal") (of_none call.NewBasicBlockNormal ws)
    ∷ named (codes "new_basic_block_function") (of_none call.NewBasicBlockFunction ws)
    ∷ named (codes "current") (of_none call.Current ws)
    ∷ named (codes "set_current") (of_one call.SetCurrent number_of ws)
    ∷ named (codes "mark_as_reachable") (of_one call.MarkAsReachable number_of ws)
    ∷ named (codes "mark_as_unreachable") (of_one call.MarkAsUnreachable number_of ws)
    ∷ named (codes "add_edge") (of_three call.AddEdge number_of number_of edge_named ws)
    ∷ []

abbrev pub instruction_calls : List (List ℕ) → List (Row Call)
instruction_calls ws =
    named (codes "push_statement") (of_one call.PushStatement number_of ws)
    ∷ named (codes "enter_statement") (of_one call.EnterStatement number_of ws)
    ∷ named (codes "push_return") (of_two call.PushReturn return_named (optional number_of) ws)
    ∷ named (codes "push_implicit_return") (of_none call.PushImplicitReturn ws)
    ∷ named (codes "append_iteration") (of_two call.AppendIteration (optional number_of) iteration_named ws)
    ∷ named (codes "append_condition_to") (of_two call.AppendConditionTo number_of (optional number_of) ws)
    ∷ named (codes "append_unreachable") (of_none call.AppendUnreachable ws)
    ∷ named (codes "append_throw") (of_one call.AppendThrow number_of ws)
    ∷ named (codes "append_break") (of_two (call.Append Break) number_of (optional label_of) ws)
    ∷ named (codes "append_continue") (of_two (call.Append Continue) number_of (optional label_of) ws)
    ∷ []

abbrev pub context_calls : List (List ℕ) → List (Row Call)
context_calls ws =
    named (codes "ctx_new") (of_two call.New (optional label_of) flags_of ws)
    ∷ named (codes "ctx_default") (of_one call.Default (optional label_of) ws)
    ∷ named (codes "ctx_new_function") (of_one call.NewFunction (optional label_of) ws)
    ∷ named (codes "resolve") (of_none call.Resolve ws)
    ∷ named (codes "resolve_expect") (of_one call.ResolveExpect flags_of ws)
    ∷ named (codes "resolve_with_upper_label") (of_none call.ResolveWithUpperLabel ws)
    ∷ named (codes "tally") (of_none call.Tally ws)
    ∷ []

abbrev pub entry_calls : List (List ℕ) → List (Row Call)
entry_calls ws =
    named (codes "break") (of_one (call.File Break) (optional label_of) ws)
    ∷ named (codes "continue") (of_one (call.File Continue) (optional label_of) ws)
    ∷ named (codes "mark_break") (of_two (call.Mark Break) (optional label_of) number_of ws)
    ∷ named (codes "mark_continue") (of_two (call.Mark Continue) (optional label_of) number_of ws)
    ∷ named (codes "break_top") (of_none (call.FileOnTop Break) ws)
    ∷ named (codes "continue_top") (of_none (call.FileOnTop Continue) ws)
    ∷ named (codes "mark_break_top") (of_one (call.MarkOnTop Break) number_of ws)
    ∷ named (codes "mark_continue_top") (of_one (call.MarkOnTop Continue) number_of ws)
    ∷ named (codes "allow_break") (of_none (call.Allow Break) ws)
    ∷ named (codes "allow_continue") (of_none (call.Allow Continue) ws)
    ∷ []

abbrev pub call_of : List (List ℕ) → Option Call
call_of [] = None
call_of (w ∷ ws) =
    option_or (option_or (option_or (chosen w (block_calls ws)) (chosen w (instruction_calls ws))) (chosen w (context_calls ws)))
    (chosen w (entry_calls ws))
