use Rattle.std.proofs.Common.{◌≡◌, true, ◌-◌, ◌≤◌, List, reverse, length, take, count_by, sym, refl, ap, ◌∙◌, subst, arith}
use Rattle.std.proofs.lemmas.List.Elements.{All-take}
use Rattle.std.proofs.lemmas.List.{length-reverse, length-take}
use Rattle.blocks.specs.Highest.{highest}
use Rattle.blocks.specs.View.{graph_of}
use Rattle.contexts.specs.Contexts.{Context, label_fits, drawn_count, resolve_counts, drawn_of, below_top, waiting_count, block_bound, top_drawn}
use Rattle.contexts.specs.Tables.{LabelsFit, context_of, entries_of, contexts_in, draws, all_drawn, above_block, above_context}
use Rattle.contexts.specs.View.{contexts_of}
use Rattle.contexts.specs.declared.ctx.Ctx.{Ctx}
use Rattle.contexts.proofs.Bounds.{waiting_known}
use Rattle.contexts.proofs.Drawing.{draws_own, draws_own_count}
use Rattle.contexts.proofs.Views.{contexts_kept, numbers_kept}
use Rattle.contexts.proofs.ctx_stack.CtxStack.resolve.Goals as goal

pub draw-requires : goal.draw-requires
draw-requires c =
    let s = c.args.self.now in
    let ws = s.waiting.items in
    let i = c.in-Some.top.number in
    let x = c.in-Some.top.ctx in
    let es = entries_of i ws in
    let k : Context = context_of x es in
    let e = c.in-Some.ensures.contexts in
    let seen = c.deref.ensures.value in
    let bound = ap (highest block_bound) e in
    let known = waiting_known s.stack.items ws s.contexts_known in
    let v = ap (highest above_block) seen in
    let n = ap (λ z. drawn_of (resolve_counts z)) e in
    let a : count_by (draws i x) c.deref.result.now ≡ drawn_count k = ap (count_by (draws i x)) seen ∙ draws_own_count i x es ws in
    let p = c.requires in
    record { blocks = omega arith; breaks = omega arith; continues = omega arith; room = omega arith }

pub invariant_of-self-clause-labels_fit : goal.invariant_of-self-clause-labels_fit
invariant_of-self-clause-labels_fit c =
    let s = c.args.self.now in
    let L : List Ctx → Type 0 = λ y. LabelsFit s.text.now y in
    subst L (sym c.pop.ensures.rest) (All-take (λ (y : Ctx). label_fits s.text.now y.label ≡ true) (s.stack.len - 1) s.stack.items s.labels_fit)

pub invariant_of-self-clause-contexts_known : goal.invariant_of-self-clause-contexts_known
invariant_of-self-clause-contexts_known c =
    let s = c.args.self.now in
    let ws = s.waiting.items in
    let i = c.in-Some.top.number in
    let t = c.in-Some.ensures.number in
    let kept = ap (highest above_context) c.release.ensures.items in
    let known = numbers_kept i ws (omega arith) in
    omega (arith, ap length c.pop.ensures.rest, length-take (s.stack.len - 1) s.stack.items)

pub returns : goal.returns
returns c =
    let s = c.args.self.now in
    let xs = s.stack.items in
    let ws = s.waiting.items in
    let g = graph_of c.args.graph.now in
    let i = c.in-Some.top.number in
    let x = c.in-Some.top.ctx in
    let es = entries_of i ws in
    let t = c.in-Some.ensures in
    let e = t.contexts in
    let seen = c.deref.ensures.value in
    let left = c.release.new.waiting.items in
    let m : s.stack.len - 1 ≡ i = omega (arith, t.number, s.stack.ok.0) in
    let short : length (reverse (take i xs)) ≤ i = omega (arith, length-reverse (take i xs), length-take i xs) in
    let q : contexts_in (reverse c.pop.new.self.items) left ≡ below_top (contexts_of s) =
    ap (λ z. contexts_in (reverse z) left) (c.pop.ensures.rest ∙ ap (λ z. take z xs) m)
    ∙ ap (λ z. contexts_in (reverse (take i xs)) z) c.release.ensures.items
    ∙ contexts_kept i (reverse (take i xs)) ws short ∙ sym (ap below_top e) in
    let h = ap (highest block_bound) q in
    let f = ap (λ z. highest block_bound (below_top z)) e in
    let b = ap (highest block_bound) e in
    let d = c.draw.ensures.sizes in
    let n = ap (count_by (draws i x)) seen ∙ draws_own_count i x es ws ∙ sym (ap (λ z. drawn_of (resolve_counts z)) e) in
    record {
      text = refl;
      contexts = q;
      waiting = ap waiting_count q;
      blocks = omega arith;
      sizes = record { marks = omega (arith, d.marks); edges = omega (arith, n, d.edges); instructions = omega (arith, d.instructions) };
      graph = c.draw.ensures.graph ∙ ap (λ z. all_drawn i x z g) seen ∙ draws_own i x es ws g ∙ sym (ap (λ z. top_drawn z g) e);
    }
