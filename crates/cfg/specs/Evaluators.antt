-- What the evaluators of the loop query find true. Assumes nothing.
--
--   same_kind k l    the kinds k and l are one
--   of_node ns n     there is a node, and it is one of ns
use Rattle.std.specs.Prelude.{ℕ, Bool, false, List, Some, None, Option, ◌==◌}
use Rattle.graph.specs.Among.{among}
use Rattle.kinds.specs.Instructions.{kind_number}
use Rattle.kinds.specs.declared.block.InstructionKind.{InstructionKind}

abbrev pub same_kind : InstructionKind → InstructionKind → Bool
same_kind k l = kind_number l == kind_number k

abbrev pub of_node : List ℕ → Option ℕ → Bool
of_node ns None = false
of_node ns (Some n) = among n ns
