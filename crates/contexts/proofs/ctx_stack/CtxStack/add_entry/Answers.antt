use Rattle.std.proofs.Common.{reverse, refl, ap, ◌∙◌, arith}
use Rattle.std.proofs.lemmas.List.{length_push}
use Rattle.blocks.specs.Highest.{highest}
use Rattle.blocks.proofs.Highest.{highest_push}
use Rattle.contexts.specs.Contexts.{with_entry}
use Rattle.contexts.specs.Tables.{contexts_in, above_context}
use Rattle.contexts.specs.declared.ctx.WaitingEntry.{WaitingEntry}
use Rattle.contexts.proofs.Bounds.{bound_entry, changed}
use Rattle.contexts.proofs.Views.{contexts_count, contexts_filed}
use Rattle.contexts.proofs.Waiting.{contexts_waiting}
use Rattle.contexts.proofs.ctx_stack.CtxStack.add_entry.Goals as goal

pub push_reserved-requires : goal.push_reserved-requires
push_reserved-requires c = let s = c.args.self.now in omega (arith, contexts_waiting s.stack.items s.waiting.items s.contexts_known)

pub invariant_of-self-clause-contexts_known : goal.invariant_of-self-clause-contexts_known
invariant_of-self-clause-contexts_known c =
    let s = c.args.self.now in
    let w : WaitingEntry = record { context = c.args.context; kind = c.args.kind; block = c.args.block } in
    let h = ap (highest above_context) c.push_reserved.ensures.items ∙ highest_push above_context s.waiting.items w in
    omega (arith, contexts_count s.stack.items s.waiting.items)

pub returns : goal.returns
returns c =
    let s = c.args.self.now in
    let w : WaitingEntry = record { context = c.args.context; kind = c.args.kind; block = c.args.block } in
    let cs = reverse s.stack.items in
    changed s _ (with_entry c.args.kind c.args.block) 1 _ c.args.context refl
    (ap (contexts_in cs) c.push_reserved.ensures.items ∙ contexts_filed cs s.waiting.items w)
    c.requires.within (λ x. length_push x.entries _) (bound_entry c.args.kind c.args.block)
