-- The top is the last slot in use.
use Rattle.std.proofs.Common.{◌≡◌, ◌+◌, ap, ◌∙◌, arith}
use Rattle.visit.specs.Held.{held}
use Rattle.visit.proofs.Holding.{held_top}
use Rattle.visit.proofs.stack.Stack.pop.Goals as goal

pub returns-clause-popped : goal.returns-clause-popped
returns-clause-popped g c =
    let xs = c.args.self.now.slots.now in
    let k = c.in_ok-self.field-0 in
    let e : c.args.self.now.used ≡ k + 1 = grind arith in
    (e, ap (held xs) e ∙ held_top xs k c.index-self-self.result (omega arith))
