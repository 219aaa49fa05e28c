-- The flags so far, and those that the words left name.
use Rattle.std.proofs.Common.{◌≡◌}
use Rattle.kinds.specs.Flags.{no_flags}
use Rattle.line.specs.Contexts.{flags_named}
use Rattle.line.specs.Cursor.{left}
use Rattle.line.proofs.contexts.flags.Given as goal

abbrev pub invariant-loop-name : goal.invariant-loop-name
invariant-loop-name l = flags_named l.flags (left l.name-iterator) ≡ flags_named no_flags (left l.initial.name-iterator)
