-- The names that a script has for kinds of edges, returns, iterations and instructions. Assumes nothing.
--
--   error_names, edge_names, return_names, iteration_names, instruction_names   the tables of names
--   error_named w, edge_named w, ..   the kind of the name w; none where it is no name
use Rattle.std.specs.Prelude.{ℕ, List, [], ◌∷◌, Some, codes, Option}
use Rattle.kinds.specs.declared.block.InstructionKind.{InstructionKind}
use Rattle.kinds.specs.declared.block.InstructionKind.TheVariants as instruction
use Rattle.kinds.specs.declared.block.LabeledInstruction.TheVariants.{Labeled, Unlabeled}
use Rattle.kinds.specs.declared.block.IterationInstructionKind.{IterationInstructionKind}
use Rattle.kinds.specs.declared.block.IterationInstructionKind.TheVariants.{Of, In}
use Rattle.kinds.specs.declared.block.ReturnInstructionKind.{ReturnInstructionKind}
use Rattle.kinds.specs.declared.block.ReturnInstructionKind.TheVariants.{ImplicitUndefined, NotImplicitUndefined}
use Rattle.kinds.specs.declared.edge.EdgeType.{EdgeType}
use Rattle.kinds.specs.declared.edge.EdgeType.TheVariants.{Jump, Normal, Backedge, NewFunction, Finalize, Error, Unreachable, Join}
use Rattle.kinds.specs.declared.edge.ErrorEdgeKind.{ErrorEdgeKind}
use Rattle.kinds.specs.declared.edge.ErrorEdgeKind.TheVariants.{Explicit, Implicit}
use Rattle.line.specs.Rows.{Row, named, chosen}

abbrev pub error_names : List (Row ErrorEdgeKind)
error_names = named (codes "explicit") (Some Explicit) ∷ named (codes "implicit") (Some Implicit) ∷ []

abbrev pub error_named : List ℕ → Option ErrorEdgeKind
error_named w = chosen w error_names

abbrev pub edge_names : List (Row EdgeType)
edge_names =
    named (codes "jump") (Some Jump)
    ∷ named (codes "normal") (Some Normal)
    ∷ named (codes "backedge") (Some Backedge)
    ∷ named (codes "new_function") (Some NewFunction)
    ∷ named (codes "finalize") (Some Finalize)
    ∷ named (codes "error_explicit") (Some (Error Explicit))
    ∷ named (codes "error_implicit") (Some (Error Implicit))
    ∷ named (codes "unreachable") (Some Unreachable)
    ∷ named (codes "join") (Some Join)
    ∷ []

abbrev pub edge_named : List ℕ → Option EdgeType
edge_named w = chosen w edge_names

abbrev pub return_names : List (Row ReturnInstructionKind)
return_names =
    named (codes "implicit_undefined") (Some ImplicitUndefined)
    ∷ named (codes "not_implicit_undefined") (Some NotImplicitUndefined)
    ∷ []

abbrev pub return_named : List ℕ → Option ReturnInstructionKind
return_named w = chosen w return_names

abbrev pub iteration_names : List (Row IterationInstructionKind)
iteration_names = named (codes "of") (Some Of) ∷ named (codes "in") (Some In) ∷ []

abbrev pub iteration_named : List ℕ → Option IterationInstructionKind
iteration_named w = chosen w iteration_names

abbrev pub instruction_names : List (Row InstructionKind)
instruction_names =
    named (codes "unreachable") (Some instruction.Unreachable)
    ∷ named (codes "statement") (Some instruction.Statement)
    ∷ named (codes "implicit_return") (Some instruction.ImplicitReturn)
    ∷ named (codes "return_implicit_undefined") (Some (instruction.Return ImplicitUndefined))
    ∷ named (codes "return_not_implicit_undefined") (Some (instruction.Return NotImplicitUndefined))
    ∷ named (codes "break_labeled") (Some (instruction.Break Labeled))
    ∷ named (codes "break_unlabeled") (Some (instruction.Break Unlabeled))
    ∷ named (codes "continue_labeled") (Some (instruction.Continue Labeled))
    ∷ named (codes "continue_unlabeled") (Some (instruction.Continue Unlabeled))
    ∷ named (codes "throw") (Some instruction.Throw)
    ∷ named (codes "condition") (Some instruction.Condition)
    ∷ named (codes "iteration_of") (Some (instruction.Iteration Of))
    ∷ named (codes "iteration_in") (Some (instruction.Iteration In))
    ∷ []

abbrev pub instruction_named : List ℕ → Option InstructionKind
instruction_named w = chosen w instruction_names
