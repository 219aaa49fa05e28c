-- The walk's answer is the definition's, and the law is about that.
use Rattle.std.proofs.Common.{length, refl}
use Rattle.query.proofs.Asking.{cycle_answered}
use Rattle.query.proofs.cycle.is_cyclic.Goals as goal

pub returns : goal.returns
returns g c =
    let G = g.G.Graph.meaning c.args.graph.now in
    let W = g.G.Graph.sound c.args.graph.now in
    let walked = c.in_ok-stop.ensures in
    let said = cycle_answered G W c.args.marks.now (length c.args.frames.now) _ (record { block = c.args.block }) c.args.block
    (λ e. refl) (λ e. refl) c.in_ok-stop.stop walked.answer c.is_some.result c.is_some.ensures in
    record { marks = c.set_depth_first_search.ensures.marks; frames = walked.frames; answer = said.answer; law = said.law }
