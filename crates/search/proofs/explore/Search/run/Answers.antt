-- Each start takes the walk on to its own end.
use borrow.Author.Tests.{clash}
use Rattle.std.proofs.Common.{◌≡◌, get_or, Some, None, sym, ◌∙◌, subst, rules}
use Rattle.walk.specs.declared.mark.Mark.TheVariants.{New}
use Rattle.walk.specs.Marks.{mark_of}
use Rattle.search.specs.Explored.{AtRest, ExploredFrom}
use Rattle.search.proofs.Exploring.{kept_on}
use Rattle.search.proofs.Refusals.{block_at}
use Rattle.search.proofs.Starting.{bound_skip, bound_next, bound_over, bound_end}
use Rattle.search.proofs.explore.Search.run.Goals.{then-eq+in_ok-open_start, else-eq}
use Rattle.search.proofs.explore.Search.run.Goals as goal

pub open_start-requires-clause-rests : goal.open_start-requires-clause-rests
open_start-requires-clause-rests g c =
    let inv = c.loop-start.invariant in
    (inv.1.s, subst (λ q. AtRest (g.G.Graph.meaning q.now) c.loop-start.self inv.1.s) (sym inv.0.graph) inv.1.rests)

pub returns-in_err-open_start-clause-walked : goal.returns-in_err-open_start-clause-walked
returns-in_err-open_start-clause-walked g c =
    let V = g.V.Visitor.meaning in
    let G = g.G.Graph.meaning c.args.self.now.graph.now in
    let inv = c.loop-start.invariant in
    let start = get_or c.args.starts.now c.loop-start.start-index 0 in
    let block = block_at G.size c.args.starts.now c.loop-start.start-index c.requires.blocks c.loop-start-test.true in
    let new : mark_of (get_or c.loop-start.self.guard.now.marks.now start 0) ≡ New = search rules in
    let explores = subst (λ q. ExploredFrom V (g.G.Graph.meaning q.now) c.loop-start.self c.open_start.new.self start (Some c.in_err-open_start.field-0.0))
    inv.0.graph c.in_err-open_start.ensures.explores in
    rw c.from_residual.ensures (bound_over inv.1 c.loop-start-test.true block new (explores inv.1.s inv.1.rests))

pub loop-start-preserved : goal.loop-start-preserved
loop-start-preserved g c =
    let V = g.V.Visitor.meaning in
    let G = g.G.Graph.meaning c.args.self.now.graph.now in
    let inv = c.loop-start.invariant in
    let start = get_or c.args.starts.now c.loop-start.start-index 0 in
    let block = block_at G.size c.args.starts.now c.loop-start.start-index c.requires.blocks c.loop-start-test.true in
    elim
    c.if-eq.branch [
      | then-eq+in_ok-open_start w ↦
          let new : mark_of (get_or c.loop-start.self.guard.now.marks.now start 0) ≡ New = search rules in
          let explores = subst (λ q. ExploredFrom V (g.G.Graph.meaning q.now) c.loop-start.self w.open_start.new.self start None)
          inv.0.graph w.in_ok-open_start.ensures.explores in
          rw w.self-is (kept_on inv.0 w.open_start.ensures.kept, bound_next inv.1 c.loop-start-test.true block new (explores inv.1.s inv.1.rests))
      | else-eq w ↦
          let h = w.if-eq.ensures in
          let new : mark_of (get_or c.loop-start.self.guard.now.marks.now start 0) ≡ New → ⊥ = λ e. clash (rw (c.get.ensures ∙ e) at h) in
          rw w.self-is (inv.0, bound_skip inv.1 c.loop-start-test.true block new)
    ]

pub returns-clause-walked : goal.returns-clause-walked
returns-clause-walked g c =
    bound_end c.loop-start.invariant.1 c.loop-start-test.false
