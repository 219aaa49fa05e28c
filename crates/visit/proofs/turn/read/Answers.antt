-- A neighbour is read as the definition reads it, by its mark and the reply.
use Rattle.std.proofs.Common.{sym, ◌∙◌}
use Rattle.walk.specs.declared.mark.Mark.TheVariants.{Open, Done}
use Rattle.visit.proofs.Turns.{visits, heard_as, marked, read_new, read_seen}
use Rattle.visit.proofs.turn.read.Goals as goal
use Rattle.visit.proofs.turn.read.Goals.{in-Open, in-Done}

pub returns-in-New-clause-reads : goal.returns-in-New-clause-reads
returns-in-New-clause-reads g c =
    let V = g.V.Visitor.meaning in
    let heard = visits c.visit.ensures.reply c.visit.ensures.state in
    λ G t vs fs end l st. read_new V G l c.in-New.ensures st heard c.flow.ensures

pub returns-in_err-flow-clause-reads : goal.returns-in_err-flow-clause-reads
returns-in_err-flow-clause-reads g c =
    let V = g.V.Visitor.meaning in
    let replied = sym c.in_err-flow.was ∙ c.flow-2.ensures in
    let heard = c.visit-2.ensures in
    λ G t vs fs end l st.
    rw c.from_residual.ensures
    elim c.match-get.branch [
      | in-Open w ↦ read_seen V G Open st (marked V G l st w.in-Open.ensures) (heard_as heard.reply heard.state w.event-is) tt replied
      | in-Done w ↦ read_seen V G Done st (marked V G l st w.in-Done.ensures) (heard_as heard.reply heard.state w.event-is) tt replied
    ]

pub returns-clause-reads : goal.returns-clause-reads
returns-clause-reads g c =
    let V = g.V.Visitor.meaning in
    let replied = sym c.in_ok-flow.was ∙ c.flow-2.ensures in
    let heard = c.visit-2.ensures in
    λ G t vs fs end l st.
    elim c.match-get.branch [
      | in-Open w ↦ read_seen V G Open st (marked V G l st w.in-Open.ensures) (heard_as heard.reply heard.state w.event-is) tt replied
      | in-Done w ↦ read_seen V G Done st (marked V G l st w.in-Done.ensures) (heard_as heard.reply heard.state w.event-is) tt replied
    ]
