-- The blocks that the contexts name.
use Rattle.std.proofs.Common.{◌≡◌, ℕ, suc, ◌+◌, ◌<◌, ◌≤◌, max, true, false, cond, eqb, List, [], ◌∷◌, map, reverse, length, filter, ap, ◌∙◌, inl, inr, arith}
use Rattle.std.proofs.lemmas.List.{length-reverse}
use Rattle.std.proofs.lemmas.Bool.{cases_eq, eq-eqb}
use Rattle.blocks.proofs.Highest.{highest_push}
use Rattle.blocks.specs.Highest.{highest}
use Rattle.contexts.specs.Contexts.{Context, with_target, with_entry, with_flag, changed_at, waiting_count, block_bound, above_entry}
use Rattle.contexts.specs.Tables.{waits_in, entry_of, entries_of, context_of, contexts_in, above_block, above_context}
use Rattle.contexts.specs.View.{Changed, contexts_of}
use Rattle.contexts.specs.declared.ctx.Ctx.{Ctx}
use Rattle.contexts.specs.declared.ctx.WaitingEntry.{WaitingEntry}
use Rattle.contexts.specs.declared.ctx_stack.CtxStack.{CtxStack}
use Rattle.contexts.proofs.Waiting.{waiting_changed}
use Rattle.kinds.specs.declared.context.EntryKind.{EntryKind}
use Rattle.kinds.specs.declared.context.EntryKind.TheVariants.{Break, Continue}

-- the highest block that the contexts name
pub bound_changed : (f : Context → Context) (m i : ℕ) (cs : List Context) → ((c : Context) → block_bound (f c) ≤ max (block_bound c) m)
    → highest block_bound (changed_at f i cs) ≤ max (highest block_bound cs) m
bound_changed f m i [] h = omega arith
bound_changed f m i (c ∷ cs) h =
    elim (eqb i (length cs)) as (λ t. highest block_bound (cond t (f c ∷ cs) (c ∷ changed_at f i cs)) ≤ max (max (block_bound c) (highest block_bound cs)) m)
    [ true ↦ (let z = h c in omega arith) | false ↦ (let z = bound_changed f m i cs h in omega arith) ]

pub bound_entry : (k : EntryKind) (b : ℕ) (c : Context) → block_bound (with_entry k b c) ≤ max (block_bound c) (suc b)
bound_entry k b c = let h = highest_push above_entry c.entries (record { kind = k; block = b }) in omega arith

pub bound_target : (k : EntryKind) (t : ℕ) (c : Context) → block_bound (with_target k t c) ≤ max (block_bound c) (suc t)
bound_target Break t c = omega arith
bound_target Continue t c = omega arith

pub bound_flag : (k : EntryKind) (c : Context) → block_bound (with_flag k c) ≤ max (block_bound c) 0
bound_flag k c = omega arith

-- a change of the context of the number i
pub changed : (old new : CtxStack) (f : Context → Context) (n b i : ℕ) → new.text ≡ old.text → contexts_of new ≡ changed_at f i (contexts_of old)
    → i < length (contexts_of old) → ((c : Context) → length (f c).entries ≡ length c.entries + n) → ((c : Context) → block_bound (f c) ≤ max (block_bound c) b)
    → Changed old new (changed_at f i (contexts_of old)) n b
changed old new f n b i t e l h k =
    let bound = bound_changed f b i (contexts_of old) k in
    let same = ap (highest block_bound) e in
    record { text = t; contexts = e; waiting = ap waiting_count e ∙ waiting_changed f n i (contexts_of old) h l; blocks = omega arith }

-- every entry names a block that its context names
bound_more : (c : Ctx) (n : ℕ) (ws : List WaitingEntry) (w : WaitingEntry)
    → block_bound (context_of c (entries_of n ws)) ≤ block_bound (context_of c (entries_of n (w ∷ ws)))
bound_more c n ws w =
    elim (waits_in n w) as
    (λ t. block_bound (context_of c (entries_of n ws)) ≤ block_bound (context_of c (map entry_of (cond t (w ∷ filter (waits_in n) ws) (filter (waits_in n) ws))))) [
      | true ↦
          omega arith
      | false ↦ omega arith
    ]

more_known : (cs : List Ctx) (ws : List WaitingEntry) (w : WaitingEntry)
    → highest block_bound (contexts_in cs ws) ≤ highest block_bound (contexts_in cs (w ∷ ws))
more_known [] ws w = omega arith
more_known (c ∷ cs) ws w = let h = more_known cs ws w in let r = bound_more c (length cs) ws w in omega arith

here_known : (cs : List Ctx) (ws : List WaitingEntry) (w : WaitingEntry) → w.context < length cs
    → above_block w ≤ highest block_bound (contexts_in cs (w ∷ ws))
here_known [] ws w l = omega arith
here_known (c ∷ cs) ws w l =
    elim (cases_eq w.context (length cs)) [
      | inl p ↦ rw (eq-eqb w.context (length cs) p) (omega arith)
      | inr p ↦ (let lt : w.context < length cs = omega (arith, p) in let h = here_known cs ws w lt in omega arith)
    ]

entries_known : (cs : List Ctx) (ws : List WaitingEntry) → highest above_context ws ≤ length cs
    → highest above_block ws ≤ highest block_bound (contexts_in cs ws)
entries_known cs [] l = omega arith
entries_known cs (w ∷ ws) l =
    let h = entries_known cs ws (omega arith) in
    let m = more_known cs ws w in
    let e = here_known cs ws w (omega arith) in
    omega arith

pub waiting_known : (xs : List Ctx) (ws : List WaitingEntry) → highest above_context ws ≤ length xs
    → highest above_block ws ≤ highest block_bound (contexts_in (reverse xs) ws)
waiting_known xs ws l = entries_known (reverse xs) ws (let z = length-reverse xs in omega arith)
