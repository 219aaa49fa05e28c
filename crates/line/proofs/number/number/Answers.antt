-- A text with no sign in front is read as its digits say.
use Rattle.std.proofs.Common.{◌∙◌, arith}
use Rattle.std.proofs.lemmas.Str.Parse.{parse_plain}
use Rattle.std.proofs.lemmas.Str.Pattern.{starts_char}
use Rattle.std.proofs.lemmas.Bool.{both_ways}
use Rattle.line.proofs.Digits.{own, read_number}
use Rattle.line.proofs.number.number.Goals as goal

pub returns : goal.returns
returns c =
    let w = c.args.word.now in
    let plus = starts_char 43 w c.starts_with.result c.starts_with.ensures.cases (omega arith) (omega arith) in
    let read = parse_plain own 32 w c.parse.result c.parse.ensures.value.0
    (λ e. both_ways c.starts_with.result c.if-starts_with.false (plus.1 e)) in
    c.ok.ensures.value ∙ read_number w c.parse.result read
