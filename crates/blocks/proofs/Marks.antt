-- What a new block leaves of the ties between the tables.
use Rattle.std.proofs.Common.{◌≡◌, ℕ, ◌<◌, ◌≤◌, false, ◌&&◌, List, [], ◌∷◌, ◌++◌, length, get_or, sym, ap, ◌∙◌, inl, inr, arith}
use Rattle.std.proofs.lemmas.List.{length_push, get_or_append_left, get_or_push}
use Rattle.std.proofs.lemmas.List.Folds.{list_any_none}
use Rattle.std.proofs.lemmas.Bool.{cases_eq, ne_eqb}
use Rattle.blocks.specs.Blocks.{is_unreachable, holds_unreachable}
use Rattle.blocks.specs.Tables.{Flagged, Inside}
use Rattle.blocks.specs.declared.basic_block.BasicBlock.{BasicBlock}
use Rattle.blocks.specs.declared.basic_block.BlockInstruction.{BlockInstruction}

-- a number that is no block holds no Unreachable instruction
holds_none : (bs : List BasicBlock) (is : List BlockInstruction) (b : ℕ) → Inside bs is → length bs ≤ b → holds_unreachable b is ≡ false
holds_none bs is b within le =
    list_any_none _ is (λ k x lt. let w = within k x lt in
    ap (λ t. t && is_unreachable (get_or is k x).instruction.kind) (ne_eqb (get_or is k x).block b (λ e. omega arith)))

-- one block more
pub flagged_block : (bs : List BasicBlock) (is : List BlockInstruction) (b : BasicBlock) → b.holds_unreachable ≡ false → Inside bs is → Flagged bs is
    → Flagged (bs ++ b ∷ []) is
flagged_block bs is b z within h k x l =
    let held : BasicBlock → _ = λ y. y.holds_unreachable in
    elim (cases_eq k (length bs)) [
      | inl q ↦ (let le : length bs ≤ k = omega arith in ap held (get_or_push bs b x k (sym q)) ∙ z ∙ sym (holds_none bs is k within le))
      | inr q ↦ (let lt : k < length bs = omega (arith, length_push bs b) in ap held (get_or_append_left bs (b ∷ []) x k lt) ∙ h k x lt)
    ]
