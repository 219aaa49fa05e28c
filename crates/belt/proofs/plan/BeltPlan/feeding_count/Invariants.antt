use Rattle.std.proofs.Common.{◌≡◌, ◌≤◌, take}
use Rattle.belt.specs.Counts.{feeding}
use Rattle.belt.proofs.plan.BeltPlan.feeding_count.Given as goal

-- the rows passed are counted
abbrev pub invariant-loop-row : goal.invariant-loop-row
invariant-loop-row l = (l.feeding ≡ feeding (take l.row-index l.self.rows)) × (l.feeding ≤ l.row-index)
