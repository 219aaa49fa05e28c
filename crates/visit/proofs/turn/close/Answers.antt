-- A block is closed as the definition closes it.
use Rattle.std.proofs.Common.{◌+◌, sym, ◌∙◌, subst}
use Rattle.visit.specs.Standing.{Stands}
use Rattle.visit.proofs.Turns.{visits, closed}
use Rattle.visit.proofs.turn.close.Goals as goal

pub returns-in_err-flow-clause-closes : goal.returns-in_err-flow-clause-closes
returns-in_err-flow-clause-closes g c =
    let V = g.V.Visitor.meaning in
    let heard = visits c.visit.ensures.reply c.visit.ensures.state in
    λ G fs end st. rw c.from_residual.ensures (closed V G st heard (sym c.in_err-flow.was ∙ c.flow.ensures))

pub returns-clause-closes : goal.returns-clause-closes
returns-clause-closes g c =
    let V = g.V.Visitor.meaning in
    let heard = visits c.visit.ensures.reply c.visit.ensures.state in
    λ G fs end st.
    subst (λ m. Stands V G m (c.args.time + 1) c.visit.new.self fs end) (sym c.set.ensures.marks)
    (closed V G st heard (sym c.in_ok-flow.was ∙ c.flow.ensures))
