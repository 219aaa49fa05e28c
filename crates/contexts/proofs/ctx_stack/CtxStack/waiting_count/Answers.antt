use Rattle.std.proofs.Common.{sym, ◌∙◌}
use Rattle.contexts.proofs.Waiting.{contexts_waiting}
use Rattle.contexts.proofs.ctx_stack.CtxStack.waiting_count.Goals as goal

pub returns : goal.returns
returns c =
    let s = c.args.self.now in
    c.len.ensures ∙ s.waiting.ok.0 ∙ sym (contexts_waiting s.stack.items s.waiting.items s.contexts_known)
