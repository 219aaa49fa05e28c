-- Each row is counted where it lists a segment.
use Rattle.std.proofs.Common.{◌<◌, ◌≤◌, ltb, length, get_or, ap, ◌∙◌, arith, rules}
use Rattle.std.proofs.lemmas.List.{take_all}
use Rattle.std.proofs.lemmas.List.Sums.{count_by_more_yes, count_by_more_no}
use Rattle.belt.specs.Counts.{fed, feeding}
use Rattle.belt.proofs.Fed.{feeds, feeds_not}
use Rattle.belt.proofs.plan.BeltPlan.feeding_count.Goals as goal
use Rattle.belt.proofs.plan.BeltPlan.feeding_count.Goals.{then-row-ne0, else-row-ne0}

pub loop-row-preserved : goal.loop-row-preserved
loop-row-preserved c =
    let rows = c.args.self.now.rows in
    let i = c.loop-row.row-index in
    let lt : i < length rows = search rules in
    let fits = c.loop-row-test.element_fits.fits in
    elim c.if-row-ne0.branch [
      | then-row-ne0 w ↦
          let more = count_by_more_yes (λ p. ltb 0 (fed p)) rows i 0 lt (feeds (get_or rows i 0) fits w.if-row-ne0.true) in
          (omega (arith, w.feeding-is, c.loop-row.invariant.0, more), omega (arith, w.feeding-is, c.loop-row.invariant.1))
      | else-row-ne0 w ↦
          let more = count_by_more_no (λ p. ltb 0 (fed p)) rows i 0 lt (feeds_not (get_or rows i 0) w.if-row-ne0.false) in
          (omega (arith, w.feeding-is, c.loop-row.invariant.0, more), omega (arith, w.feeding-is, c.loop-row.invariant.1))
    ]

pub returns : goal.returns
returns c =
    let rows = c.args.self.now.rows in
    let end : length rows ≤ c.loop-row.row-index = search rules in
    c.loop-row.invariant.0 ∙ ap feeding (take_all c.loop-row.row-index rows end)
