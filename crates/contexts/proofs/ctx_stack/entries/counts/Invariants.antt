use Rattle.std.proofs.Common.{◌≡◌, ◌≤◌, take, count_by}
use Rattle.contexts.specs.Tables.{draws, lacks}
use Rattle.contexts.proofs.ctx_stack.entries.counts.Given as goal

-- the entries passed are counted
abbrev pub invariant-loop-entry : goal.invariant-loop-entry
invariant-loop-entry l = (l.drawn ≡ count_by (draws l.top.number l.top.ctx) (take l.entry-index l.waiting))
    × (l.untargeted ≡ count_by (lacks l.top.number l.top.ctx) (take l.entry-index l.waiting))
    × (l.drawn ≤ l.entry-index) × (l.untargeted ≤ l.entry-index)
