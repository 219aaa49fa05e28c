use Rattle.std.proofs.Common.{sym, ◌∙◌}
use Rattle.contexts.proofs.Views.{contexts_count}
use Rattle.contexts.proofs.ctx_stack.CtxStack.len.Goals as goal

pub returns : goal.returns
returns c = let s = c.args.self.now in c.len.ensures ∙ s.stack.ok.0 ∙ sym (contexts_count s.stack.items s.waiting.items)
