-- What is left decides.
use Rattle.std.proofs.Common.{◌≡◌, drop}
use Rattle.graph.specs.Among.{among}
use Rattle.graph.proofs.among.is_among.Given as goal

abbrev pub invariant-loop-n : goal.invariant-loop-n
invariant-loop-n l = among l.number l.numbers ≡ among l.number (drop l.n-index l.numbers)
