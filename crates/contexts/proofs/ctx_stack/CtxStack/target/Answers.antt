use Rattle.std.proofs.Common.{◌<◌, length, sym, ap, ◌∙◌, arith}
use Rattle.contexts.specs.Tables.{jump_of}
use Rattle.contexts.proofs.Views.{context_index, contexts_target}
use Rattle.contexts.proofs.ctx_stack.CtxStack.target.Goals as goal

pub index-requires : goal.index-requires
index-requires c = context_index c.args.self.now c.args.context c.requires

pub returns : goal.returns
returns c =
    let s = c.args.self.now in
    let lt : c.args.context < length s.stack.items = omega (arith, context_index s c.args.context c.requires, s.stack.ok.0) in
    c.target.ensures ∙ ap (jump_of c.args.kind) c.index.ensures
    ∙ sym (contexts_target c.args.kind s.stack.items s.waiting.items c.args.context c.index.result.now lt)
