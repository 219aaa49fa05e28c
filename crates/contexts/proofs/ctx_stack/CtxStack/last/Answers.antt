use Rattle.std.proofs.Common.{◌≡◌, ◌-◌, ◌<◌, get_or, ◌∙◌, rules}
use Rattle.contexts.proofs.Views.{is_top}
use Rattle.contexts.proofs.ctx_stack.CtxStack.last.Goals as goal

pub returns : goal.returns
returns c =
    let s = c.args.self.now in
    let x = c.in_ok-ctx.field-0.now in
    let pos : 0 < c.len.result = search rules in
    let e : x ≡ get_or s.stack.items (c.len.result - 1) x = search rules in
    is_top s.stack.items s.waiting.items c.len.result x (c.len.ensures ∙ s.stack.ok.0) pos e
