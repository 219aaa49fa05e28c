-- The numbers of the kinds of instructions. Assumes nothing.
--
--   kind_number k   the number of the kind k, by which two kinds are told apart
use Rattle.std.specs.Prelude.{ℕ}
use Rattle.kinds.specs.declared.block.InstructionKind.{InstructionKind}
use Rattle.kinds.specs.declared.block.InstructionKind.TheVariants.{Unreachable, Statement, ImplicitReturn, Return, Break, Continue, Throw, Condition, Iteration}
use Rattle.kinds.specs.declared.block.IterationInstructionKind.TheVariants.{Of, In}
use Rattle.kinds.specs.declared.block.LabeledInstruction.TheVariants.{Labeled, Unlabeled}
use Rattle.kinds.specs.declared.block.ReturnInstructionKind.TheVariants.{ImplicitUndefined, NotImplicitUndefined}

abbrev pub kind_number : InstructionKind → ℕ
kind_number Unreachable = 1
kind_number Statement = 2
kind_number ImplicitReturn = 3
kind_number (Return ImplicitUndefined) = 4
kind_number (Return NotImplicitUndefined) = 5
kind_number (Break Labeled) = 6
kind_number (Break Unlabeled) = 7
kind_number (Continue Labeled) = 8
kind_number (Continue Unlabeled) = 9
kind_number Throw = 10
kind_number Condition = 11
kind_number (Iteration Of) = 12
kind_number (Iteration In) = 13
