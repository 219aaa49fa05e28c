-- The text is cut at its first separator.
use Rattle.std.proofs.Common.{Some, None}
use Rattle.line.proofs.Cuts.{cut_once}
use Rattle.line.proofs.words.cut.Goals as goal

pub returns-in-Some : goal.returns-in-Some
returns-in-Some c =
    cut_once c.args.separator c.from.result c.args.text.now (Some (c.in-Some.word, c.in-Some.rest)) c.from.ensures c.in-Some.ensures.cases

pub returns-in-None : goal.returns-in-None
returns-in-None c = cut_once c.args.separator c.from.result c.args.text.now None c.from.ensures c.in-None.ensures.cases
