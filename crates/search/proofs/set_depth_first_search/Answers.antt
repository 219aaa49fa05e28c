-- The marks that are lent on are clean, and the laws of the walk.
use Rattle.std.proofs.Common.{◌≡◌, length, replicate, None, sym, ap, ◌∙◌, subst}
use Rattle.search.specs.Refused.{refused}
use Rattle.search.proofs.Laws.{accepted, numbers_told, spans_told, depth_told}
use Rattle.search.proofs.Refusals.{ready, clean_zeros}
use Rattle.search.proofs.set_depth_first_search.Goals as goal

pub walk_from-ended-requires-clause-clean : goal.walk_from-ended-requires-clause-clean
walk_from-ended-requires-clause-clean g c =
    let can = ready _ c.args.starts.now c.args.marks.now (length c.args.frames.now) (accepted _ _ _ c.in_ok-refuse_walk.ensures).0 in
    clean_zeros _ c.args.marks.now can.marks_long can.all_clean ∙ ap (λ n. replicate n 0) c.node_count-count.ensures

pub returns-clause-numbers : goal.returns-clause-numbers
returns-clause-numbers g c =
    let us = c.args.starts.now in
    let old = c.args.marks.now in
    let room = length c.args.frames.now in
    let free = subst (λ n. refused n us old room ≡ None) c.node_count-count.ensures (accepted _ _ _ c.in_ok-refuse_walk.ensures).0 in
    numbers_told g.V.Visitor.meaning _ (g.G.Graph.sound c.args.graph.now) us old room c.args.visitor.now free c.break_value.result
    (sym c.walk_from-ended.ensures.answer ∙ sym c.break_value.ensures.value)

pub returns-clause-spans : goal.returns-clause-spans
returns-clause-spans g c =
    spans_told g.V.Visitor.meaning _ (g.G.Graph.sound c.args.graph.now) c.args.starts.now c.args.marks.now (length c.args.frames.now) c.args.visitor.now

pub returns-clause-depth : goal.returns-clause-depth
returns-clause-depth g c =
    depth_told g.V.Visitor.meaning _ (g.G.Graph.sound c.args.graph.now) c.args.starts.now c.args.marks.now (length c.args.frames.now) c.args.visitor.now
