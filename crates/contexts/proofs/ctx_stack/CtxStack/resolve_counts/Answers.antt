use Rattle.std.proofs.Common.{◌≡◌, Some, count_by, sym, ap, ◌∙◌, arith}
use Rattle.contexts.specs.Contexts.{Context, drawn_count, untargeted_count, resolve_counts, waiting_count, below_top}
use Rattle.contexts.specs.Tables.{context_of, entries_of, draws, lacks}
use Rattle.contexts.proofs.Drawing.{draws_own_count, lacks_own_count, target_split}
use Rattle.contexts.proofs.ctx_stack.CtxStack.resolve_counts.Goals as goal

pub returns : goal.returns
returns c =
    let ws = c.args.self.now.waiting.items in
    let i = c.in_ok-top.top.number in
    let x = c.in_ok-top.top.ctx in
    let es = entries_of i ws in
    let k : Context = context_of x es in
    let e = c.in_ok-top.ensures.contexts in
    let seen = c.deref.ensures.value in
    let n = c.counts.result in
    let a : n.0 ≡ drawn_count k = c.counts.ensures.drawn ∙ ap (count_by (draws i x)) seen ∙ draws_own_count i x es ws in
    let b : n.1 ≡ untargeted_count k = c.counts.ensures.untargeted ∙ ap (count_by (lacks i x)) seen ∙ lacks_own_count i x es ws in
    let both : Some n ≡ Some (drawn_count k, untargeted_count k) = ap (λ z. Some (z, n.1)) a ∙ ap (λ z. Some (drawn_count k, z)) b in
    record { value = both ∙ sym (ap resolve_counts e); waiting = omega (arith, target_split k es, ap waiting_count e, ap (λ z. waiting_count (below_top z)) e) }
