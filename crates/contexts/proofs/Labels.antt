-- The search down the stack.
use Rattle.std.proofs.Common.{◌≡◌, ℕ, ◌≤◌, Bool, false, cond, ◌&&◌, List, [], ◌∷◌, ◌++◌, reverse, length, Some, None, Option, get_or, ap, ◌∙◌, arith}
use Rattle.std.proofs.lemmas.List.{get_or_append_left, length_push, reverse-append}
use Rattle.contexts.specs.Contexts.{found, has_flag, label_matches}
use Rattle.contexts.specs.Tables.{LabelsFit, contexts_in}
use Rattle.contexts.specs.declared.ctx.Ctx.{Ctx}
use Rattle.contexts.specs.declared.ctx.WaitingEntry.{WaitingEntry}
use Rattle.kinds.specs.declared.context.EntryKind.{EntryKind}
use Rattle.kinds.specs.declared.context.Label.{Label}
use Rattle.contexts.proofs.Views.{contexts_count}

-- the search in the stack cs goes on in those of its contexts that are left
pub record GoesOn (text : List ℕ) (k : EntryKind) (l : Option Label) (ws : List WaitingEntry) (cs left : List Ctx) : Type 0 where
  pub value : found text k l (contexts_in (reverse cs) ws) ≡ found text k l (contexts_in (reverse left) ws)
  pub within : length left ≤ length cs
  pub labels : LabelsFit text left

pub found_last : (text : List ℕ) (k : EntryKind) (l : Option Label) (ws : List WaitingEntry) (cs : List Ctx) (c : Ctx)
    → found text k l (contexts_in (reverse (cs ++ c ∷ [])) ws)
    ≡ cond c.flags.function None (cond (has_flag k c.flags && label_matches text l c.label) (Some (length cs)) (found text k l (contexts_in (reverse cs) ws)))
found_last text k l ws cs c =
    ap (λ z. found text k l (contexts_in z ws)) (reverse-append cs (c ∷ []))
    ∙ ap (λ n. cond c.flags.function None (cond (has_flag k c.flags && label_matches text l c.label) (Some n) (found text k l (contexts_in (reverse cs) ws))))
    (contexts_count cs ws)

passed : (f t : Bool) (x r : Option ℕ) → f ≡ false → t ≡ false → cond f None (cond t x r) ≡ r
passed f t x r e g = rw (e, g)

-- the last of them neither takes the entry nor begins a function
pub goes_on : (text : List ℕ) (k : EntryKind) (l : Option Label) (ws : List WaitingEntry) (cs left rest : List Ctx) (c : Ctx) → left ≡ rest ++ c ∷ []
    → c.flags.function ≡ false → (has_flag k c.flags && label_matches text l c.label) ≡ false → GoesOn text k l ws cs left → GoesOn text k l ws cs rest
goes_on text k l ws cs left rest c e f n h =
    let m = ap length e ∙ length_push rest c in
    let w = h.within in record {
      value = h.value ∙ ap (λ z. found text k l (contexts_in (reverse z) ws)) e ∙ found_last text k l ws rest c ∙ passed c.flags.function _ _ _ f n;
      within = omega arith;
      labels = λ i d lt. (let g = h.labels i d (omega arith) in let q = ap (λ z. get_or z i d) e ∙ get_or_append_left rest (c ∷ []) d i lt in rw q at g);
    }
