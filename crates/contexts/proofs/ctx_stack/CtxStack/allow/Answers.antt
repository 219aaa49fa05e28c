use Rattle.std.proofs.Common.{◌<◌, length, refl, ap, arith}
use Rattle.contexts.specs.Contexts.{with_flag}
use Rattle.contexts.specs.Tables.{context_of}
use Rattle.contexts.proofs.Bounds.{bound_flag, changed}
use Rattle.contexts.proofs.Views.{context_index, contexts_set}
use Rattle.contexts.proofs.ctx_stack.CtxStack.allow.Goals as goal

pub index_mut-requires : goal.index_mut-requires
index_mut-requires c = context_index c.args.self.now c.args.context c.requires

pub returns : goal.returns
returns c =
    let s = c.args.self.now in
    let i = c.args.context in
    let f = with_flag c.args.kind in
    let lt : i < length s.stack.items = omega (arith, context_index s i c.requires, s.stack.ok.0) in
    changed s _ f 0 0 i refl
    (contexts_set f s.stack.items i c.allow.new.self c.index_mut.result.now s.waiting.items lt c.index_mut.ensures.value
    (λ es. ap (λ x. context_of x es) c.allow.ensures))
    c.requires (λ x. omega arith) (bound_flag c.args.kind)
