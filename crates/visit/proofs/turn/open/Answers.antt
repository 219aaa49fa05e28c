-- A block is opened as the definition opens it; a pruned one has an empty list.
use Rattle.std.proofs.Common.{sym, ap, ◌∙◌, arith}
use Rattle.visit.specs.OpenFrames.{opened as opened_frames}
use Rattle.visit.proofs.Turns.{visits, opened, placed}
use Rattle.visit.proofs.turn.open.Goals as goal
use Rattle.visit.proofs.turn.open.Goals.{then-branch, else-branch}

pub returns-in_err-flow-clause-opens : goal.returns-in_err-flow-clause-opens
returns-in_err-flow-clause-opens g c =
    let V = g.V.Visitor.meaning in
    let G = g.G.Graph.meaning c.args.graph.now in
    let heard = visits c.visit.ensures.reply c.visit.ensures.state in
    λ end l e st. rw c.from_residual.ensures (opened V G l e st heard (sym c.in_err-flow.was ∙ c.flow.ensures))

pub returns-clause-opens : goal.returns-clause-opens
returns-clause-opens g c =
    let V = g.V.Visitor.meaning in
    let G = g.G.Graph.meaning c.args.graph.now in
    let heard = visits c.visit.ensures.reply c.visit.ensures.state in
    let rest = g.G.Graph.rest c.args.graph.now in
    let sound = g.G.Graph.sound c.args.graph.now in
    let few = sound.few in
    λ end l e st.
    placed V G c.set.ensures.marks (ap (opened_frames rest) c.push.ensures.held)
    elim c.if-branch.branch [
      | then-branch w ↦ rw (w.if-branch.true, ← w.list-is) c.head.ensures
      | else-branch w ↦ rw (w.if-branch.false, c.head.ensures, w.list-is) (sound.outside _ (let n = w.node_count.ensures in omega arith))
    ]
    (opened V G l e st heard (sym c.in_ok-flow.was ∙ c.flow.ensures))
