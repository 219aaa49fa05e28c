use Rattle.std.proofs.Common.{◌≤◌, length, count_by, ap, ◌∙◌, arith}
use Rattle.std.proofs.lemmas.List.{take_all}
use Rattle.contexts.specs.Tables.{draws, lacks}
use Rattle.contexts.proofs.ctx_stack.entries.counts.Goals as goal

pub returns : goal.returns
returns c =
    let ws = c.args.waiting.now in
    let le : length ws ≤ c.loop-entry.entry-index = omega arith in
    let e = take_all c.loop-entry.entry-index ws le in
    record {
      drawn = c.loop-entry.invariant.0 ∙ ap (count_by (draws c.args.top.number c.args.top.ctx)) e;
      untargeted = c.loop-entry.invariant.1 ∙ ap (count_by (lacks c.args.top.number c.args.top.ctx)) e;
    }
