use Rattle.std.proofs.Common.{◌≡◌, vec_items}
use Rattle.contexts.proofs.Labels.{GoesOn}
use Rattle.contexts.proofs.ctx_stack.CtxStack.find.Given as goal

abbrev pub invariant-loop-i : goal.invariant-loop-i
invariant-loop-i l = (l.i-iterator.iter.count ≡ 0)
    × GoesOn l.self.text.now l.kind l.label (vec_items l.self.waiting) (vec_items l.self.stack) l.i-iterator.iter.iter.rest.now
