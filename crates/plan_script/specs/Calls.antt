-- What the calls of a plan script come to. Assumes nothing.
--
--   refusal_of call       why the call is refused, if it is
--   edited call plan      the plan after the call, where it is not refused
--   answer_of call plan   its answer then
use Rattle.std.specs.Prelude.{true, false, None, Option}
use Rattle.kinds.specs.declared.refusal.Refusal.{Refusal}
use Rattle.belt.specs.declared.plan.BeltPlan.{BeltPlan}
use Rattle.belt.specs.Edits.{with_transfer, with_lock}
use Rattle.belt.specs.Plan.{no_segment, no_segments, permitted, row_of}
use Rattle.belt.specs.Sets.{set_of}
use Rattle.plan_script.specs.declared.call.Answer.{Answer}
use Rattle.plan_script.specs.declared.call.Answer.TheVariants.{Done, Listed, Said, Counted}
use Rattle.plan_script.specs.declared.call.PlanCall.{PlanCall}
use Rattle.plan_script.specs.declared.call.PlanCall.TheVariants.{SetTransfer, ClearTransfer, SetLock, ClearLock, Transfers, Permitted, Segments}

abbrev pub refusal_of : PlanCall → Option Refusal
refusal_of (SetTransfer a b) = no_segments a b
refusal_of (ClearTransfer a b) = no_segments a b
refusal_of (SetLock s) = no_segment s
refusal_of (ClearLock s) = no_segment s
refusal_of (Transfers s) = no_segment s
refusal_of (Permitted a b) = no_segments a b
refusal_of Segments = None

abbrev pub edited : PlanCall → BeltPlan → BeltPlan
edited (SetTransfer a b) plan = with_transfer a b true plan
edited (ClearTransfer a b) plan = with_transfer a b false plan
edited (SetLock s) plan = with_lock s true plan
edited (ClearLock s) plan = with_lock s false plan
edited (Transfers s) plan = plan
edited (Permitted a b) plan = plan
edited Segments plan = plan

abbrev pub answer_of : PlanCall → BeltPlan → Answer
answer_of (SetTransfer a b) plan = Done
answer_of (ClearTransfer a b) plan = Done
answer_of (SetLock s) plan = Done
answer_of (ClearLock s) plan = Done
answer_of (Transfers s) plan = Listed (set_of (row_of plan s))
answer_of (Permitted a b) plan = Said (permitted plan a b)
answer_of Segments plan = Counted 64
