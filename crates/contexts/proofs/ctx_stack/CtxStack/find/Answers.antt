use Rattle.std.proofs.Common.{◌≡◌, false, ◌&&◌, length, ap, ◌∙◌, arith, rules}
use Rattle.std.proofs.lemmas.List.{length_push}
use Rattle.std.proofs.lemmas.Grind.{common_steps}
use Rattle.contexts.specs.Contexts.{has_flag, label_matches}
use Rattle.contexts.proofs.Labels.{found_last, goes_on}
use Rattle.contexts.proofs.Views.{contexts_count}
use Rattle.contexts.proofs.ctx_stack.CtxStack.find.Goals.{else-allows-via-then-allows+else-is, else-allows-via-else-allows}
use Rattle.contexts.proofs.ctx_stack.CtxStack.find.Goals as goal
use borrow.Author.Tests.{tests}

pub loop-i-preserved : goal.loop-i-preserved
loop-i-preserved c =
    let s = c.in-Some.ensures.steps in
    let x = c.in-Some.ctx.now in
    let passed : (has_flag c.args.kind x.flags && label_matches c.args.self.now.text.now c.args.label x.label) ≡ false =
    elim c.else-allows.branch [ else-allows-via-then-allows+else-is w ↦ search (rules, tests) | else-allows-via-else-allows w ↦ search (rules, tests) ] in
    (s.0 ∙ c.loop-i.invariant.0, goes_on _ _ _ _ _ _ _ x s.1.0 c.if-ctx.false passed c.loop-i.invariant.1)

pub returns-then-is-clause-value : goal.returns-then-is-clause-value
returns-then-is-clause-value c = grind (arith, common_steps, found_last)

pub returns-then-is-clause-within : goal.returns-then-is-clause-within
returns-then-is-clause-within c =
    let s = c.args.self.now in
    let steps = c.in-Some.ensures.steps in
    let rest = c.next.new.self.iter.iter.rest.now in
    let more = ap length steps.1.0 ∙ length_push rest c.in-Some.ctx.now in
    let h = c.loop-i.invariant in
    let w = h.1.within in
    omega (arith, h.0, steps.1.1, contexts_count s.stack.items s.waiting.items)
