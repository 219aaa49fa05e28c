-- How many entries wait.
use Rattle.std.proofs.Common.{◌≡◌, ℕ, suc, ◌+◌, ◌<◌, ◌≤◌, List, [], ◌∷◌, reverse, length, refl, ap, ◌∙◌, suc-add, zero-add, inl, inr, arith}
use Rattle.std.proofs.lemmas.List.{length-reverse}
use Rattle.std.proofs.lemmas.Bool.{cases_eq, eq-eqb, ne_eqb}
use Rattle.blocks.specs.Highest.{highest}
use Rattle.contexts.specs.Contexts.{Context, changed_at, waiting_count}
use Rattle.contexts.specs.Tables.{entries_of, contexts_in, above_context}
use Rattle.contexts.specs.declared.ctx.Ctx.{Ctx}
use Rattle.contexts.specs.declared.ctx.WaitingEntry.{WaitingEntry}

-- an entry more in the list is one more in its context
waiting_past : (cs : List Ctx) (w : WaitingEntry) (ws : List WaitingEntry) → length cs ≤ w.context → waiting_count (contexts_in cs (w ∷ ws)) ≡ waiting_count (contexts_in cs ws)
waiting_past [] w ws l = refl
waiting_past (c ∷ cs) w ws l =
    let q : w.context ≡ length cs → ⊥ = λ z. omega arith in
    rw (ne_eqb w.context (length cs) q) (ap (λ n. length (entries_of (length cs) ws) + n) (waiting_past cs w ws (omega arith)))

waiting_more : (cs : List Ctx) (w : WaitingEntry) (ws : List WaitingEntry) → w.context < length cs → waiting_count (contexts_in cs (w ∷ ws)) ≡ suc (waiting_count (contexts_in cs ws))
waiting_more [] w ws l = absurd (omega arith)
waiting_more (c ∷ cs) w ws l =
    elim (cases_eq w.context (length cs)) [
      | inl p ↦ (let le : length cs ≤ w.context = omega arith in
          rw (eq-eqb w.context (length cs) p) (ap (λ n. suc (length (entries_of (length cs) ws)) + n) (waiting_past cs w ws le) ∙ rw suc-add))
      | inr p ↦ (let lt : w.context < length cs = omega (arith, p) in
          rw (ne_eqb w.context (length cs) p) (let h = waiting_more cs w ws lt in omega arith))
    ]

waiting_none : (cs : List Ctx) → waiting_count (contexts_in cs []) ≡ 0
waiting_none [] = refl
waiting_none (c ∷ cs) = zero-add _ ∙ waiting_none cs

all_wait : (cs : List Ctx) (ws : List WaitingEntry) → highest above_context ws ≤ length cs → waiting_count (contexts_in cs ws) ≡ length ws
all_wait cs [] l = waiting_none cs
all_wait cs (w ∷ ws) l = waiting_more cs w ws (omega arith) ∙ ap suc (all_wait cs ws (omega arith))

pub contexts_waiting : (xs : List Ctx) (ws : List WaitingEntry) → highest above_context ws ≤ length xs → waiting_count (contexts_in (reverse xs) ws) ≡ length ws
contexts_waiting xs ws l = all_wait (reverse xs) ws (omega (arith, length-reverse xs))

-- how many wait after a change of one context
pub waiting_changed : (f : Context → Context) (n i : ℕ) (cs : List Context) → ((c : Context) → length (f c).entries ≡ length c.entries + n) → i < length cs
    → waiting_count (changed_at f i cs) ≡ waiting_count cs + n
waiting_changed f n i [] h l = absurd (omega arith)
waiting_changed f n i (c ∷ cs) h l =
    elim (cases_eq i (length cs)) [
      | inl p ↦ rw (eq-eqb i (length cs) p) (let z = h c in omega arith)
      | inr p ↦ rw (ne_eqb i (length cs) p) (let z = waiting_changed f n i cs h (omega (arith, p)) in omega arith)
    ]
