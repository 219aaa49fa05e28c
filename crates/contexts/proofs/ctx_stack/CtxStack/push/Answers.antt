use Rattle.std.proofs.Common.{◌≡◌, ◌∷◌, reverse, None, refl, ap, ◌∙◌, arith}
use Rattle.blocks.specs.Highest.{highest}
use Rattle.contexts.specs.Contexts.{opened, waiting_count, block_bound}
use Rattle.contexts.specs.Tables.{contexts_in}
use Rattle.contexts.specs.View.{contexts_of}
use Rattle.contexts.specs.declared.ctx.Ctx.{Ctx}
use Rattle.contexts.proofs.Views.{contexts_count, contexts_opened}
use Rattle.contexts.proofs.ctx_stack.CtxStack.push.Goals as goal

pub push_reserved-requires : goal.push_reserved-requires
push_reserved-requires c = let s = c.args.self.now in omega (arith, contexts_count s.stack.items s.waiting.items)

pub returns : goal.returns
returns c =
    let s = c.args.self.now in
    let x : Ctx = record { flags = c.args.flags; label = c.args.label; break_jmp = None; continue_jmp = None } in
    let ws = s.waiting.items in
    let e : contexts_in (reverse c.push_reserved.new.self.items) ws ≡ opened c.args.flags c.args.label ∷ contexts_of s =
    ap (λ z. contexts_in (reverse z) ws) c.push_reserved.ensures.items ∙ contexts_opened s.stack.items x ws s.contexts_known in
    let count = ap waiting_count e in
    let bound = ap (highest block_bound) e in
    record { text = refl; contexts = e; waiting = omega arith; blocks = omega arith }
