use Rattle.std.proofs.Common.{◌≡◌, ◌+◌, ◌<◌, length, refl, ap, ◌∙◌, arith}
use Rattle.kinds.specs.declared.context.EntryKind.{EntryKind}
use Rattle.kinds.specs.declared.context.EntryKind.TheVariants.{Break, Continue}
use Rattle.contexts.specs.Contexts.{Context, with_target}
use Rattle.contexts.specs.Tables.{context_of}
use Rattle.contexts.proofs.Bounds.{bound_target, changed}
use Rattle.contexts.proofs.Views.{context_index, contexts_set, target_fits}
use Rattle.contexts.proofs.ctx_stack.CtxStack.mark.Goals as goal

same : (k : EntryKind) (t : _) (c : Context) → length (with_target k t c).entries ≡ length c.entries + 0
same Break t c = omega arith
same Continue t c = omega arith

pub index_mut-requires : goal.index_mut-requires
index_mut-requires c = context_index c.args.self.now c.args.context c.requires

pub returns : goal.returns
returns c =
    let s = c.args.self.now in
    let i = c.args.context in
    let f = with_target c.args.kind c.args.target in
    let old = c.index_mut.result.now in
    let lt : i < length s.stack.items = omega (arith, context_index s i c.requires, s.stack.ok.0) in
    changed s _ f 0 _ i refl
    (contexts_set f s.stack.items i c.set_target.new.self old s.waiting.items lt c.index_mut.ensures.value
    (λ es. ap (λ x. context_of x es) c.set_target.ensures ∙ target_fits c.args.kind c.args.target old es))
    c.requires (same c.args.kind c.args.target) (bound_target c.args.kind c.args.target)
