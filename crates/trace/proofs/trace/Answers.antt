-- The log comes back with what the recorder wrote.
use Rattle.std.proofs.Common.{length, refl, ◌∙◌, rules}
use Rattle.search.specs.Refused.{refused}
use Rattle.trace.proofs.Answering.{accepted}
use Rattle.trace.proofs.trace.Goals as goal

pub returns : goal.returns
returns g c =
    let G = g.G.Graph.meaning c.args.graph.now in
    let us = c.args.starts.now in
    let why = refused G.size us c.args.marks.now (length c.args.frames.now) in
    let walked = c.in_ok-stop.ensures in
    let said = accepted G us _ refl why c.set_depth_first_search.new.visitor c.in_ok-stop.stop walked.answer walked.visitor in
    let same = said.same in
    record { marks = walked.marks; frames = walked.frames; log = search rules ∙ said.holds; answer = said.answer }
