-- The numbers read, and those of the words left.
use Rattle.std.proofs.Common.{◌≡◌, ◌++◌, vec_items}
use Rattle.std.specs.Option.{option_map}
use Rattle.line.specs.Cursor.{left}
use Rattle.line.specs.Lists.{numbers}
use Rattle.line.proofs.list.each_number.Given as goal

abbrev pub invariant-loop-word : goal.invariant-loop-word
invariant-loop-word l = option_map (λ ns. vec_items l.list ++ ns) (numbers (left l.word-iterator)) ≡ numbers (left l.initial.word-iterator)
