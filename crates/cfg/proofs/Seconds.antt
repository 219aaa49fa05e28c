-- Where no edge is of a kind, no second one is; so a block that no Backedge comes into starts no loop.
use Rattle.std.proofs.Common.{◌≡◌, ℕ, ◌<◌, Bool, true, false, cond, List, [], ◌∷◌, length, is_some, Some, None, Ok, sym, refl, ap, ◌∙◌, arith}
use Rattle.std.proofs.lemmas.Bool.{lt-leb}
use Rattle.kinds.specs.Replies.{row, told}
use Rattle.kinds.specs.declared.block.Instruction.{Instruction}
use Rattle.kinds.specs.declared.edge.Edge.{Edge}
use Rattle.kinds.specs.declared.edge.EdgeType.{EdgeType}
use Rattle.kinds.specs.declared.refusal.Refusal.TheVariants.{NoBlock, TwoBackedges}
use Rattle.blocks.specs.Blocks.{GraphState}
use Rattle.cfg.specs.Loops.{is_backedge, first_fit, after_fit, entering, by_backedge, loop_start, loop_refusal}

pub none_after : (q : EdgeType → Bool) (es : List Edge) → first_fit q es ≡ None → after_fit q es ≡ []
none_after q [] e = refl
none_after q (x ∷ es) e = by (q x.kind) (none_after q es) e
  where
    by : (t : Bool) → (first_fit q es ≡ None → after_fit q es ≡ []) → cond t (Some x) (first_fit q es) ≡ None
        → cond t es (after_fit q es) ≡ []
    by true h z = let w : ◌≡◌ {A = ℕ} 0 1 = cc in absurd (omega arith)
    by false h z = h z

-- a block that no Backedge comes into starts no loop, and is not refused
pub no_loop : (holds : Instruction → Bool) (u : ℕ) (g : GraphState) → u < length g.marks → first_fit is_backedge (entering u g) ≡ None
    → Ok None ≡ told (loop_refusal u g) (loop_start holds u g)
no_loop holds u g lt e =
    let second : first_fit is_backedge (after_fit is_backedge (entering u g)) ≡ None = ap (first_fit is_backedge) (none_after is_backedge (entering u g) e) in
    let rows : loop_refusal u g ≡ None =
    ap (λ t. row t NoBlock (row (is_some (first_fit is_backedge (after_fit is_backedge (entering u g)))) TwoBackedges None)) (lt-leb (length g.marks) u lt)
    ∙ ap (λ o. row (is_some o) TwoBackedges None) second in
    sym (ap (λ o. told o (loop_start holds u g)) rows ∙ ap (λ o. Ok (by_backedge holds u g o)) e)
