-- The lines of a plan script that are calls. Assumes nothing.
--
--   table ws          the calls by name, each made of the words ws
--   call_named w ws   the call of the name w with the words ws
--   call_of ws        the call that a line's words make
use Rattle.std.specs.Prelude.{ℕ, List, [], ◌∷◌, None, codes, Option}
use Rattle.line.specs.Arguments.{of_none, of_one, of_two}
use Rattle.line.specs.Numbers.{number_of}
use Rattle.line.specs.Rows.{Row, named, chosen}
use Rattle.plan_script.specs.declared.call.PlanCall.{PlanCall}
use Rattle.plan_script.specs.declared.call.PlanCall.TheVariants.{SetTransfer, ClearTransfer, SetLock, ClearLock, Transfers, Permitted, Segments}

abbrev pub table : List (List ℕ) → List (Row PlanCall)
table ws =
    named (codes "set_transfer") (of_two SetTransfer number_of number_of ws)
    ∷ named (codes "clear_transfer") (of_two ClearTransfer number_of number_of ws)
    ∷ named (codes "set_lock") (of_one SetLock number_of ws)
    ∷ named (codes "clear_lock") (of_one ClearLock number_of ws)
    ∷ named (codes "transfers") (of_one Transfers number_of ws)
    ∷ named (codes "permitted") (of_two Permitted number_of number_of ws)
    ∷ named (codes "segments") (of_none Segments ws)
    ∷ []

abbrev pub call_named : List ℕ → List (List ℕ) → Option PlanCall
call_named w ws = chosen w (table ws)

abbrev pub call_of : List (List ℕ) → Option PlanCall
call_of [] = None
call_of (w ∷ ws) = call_named w ws
