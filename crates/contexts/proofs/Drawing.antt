-- What resolving a context draws, entry by entry.
use Rattle.std.proofs.Common.{◌≡◌, ℕ, ◌+◌, Bool, true, false, cond, not, ◌&&◌, List, [], ◌∷◌, map, length, is_some, filter, count_by, sym, refl, ap, ◌∙◌, zero-add, arith}
use Rattle.std.proofs.lemmas.List.Sums.{sum_by-cons}
use Rattle.blocks.specs.Blocks.{GraphState}
use Rattle.contexts.specs.Contexts.{Entry, Context, jump_added, entries_drawn, has_target}
use Rattle.contexts.specs.Tables.{waits_in, entry_of, entries_of, context_of, jump_of, all_drawn, draws, lacks}
use Rattle.contexts.specs.declared.ctx.Ctx.{Ctx}
use Rattle.contexts.specs.declared.ctx.WaitingEntry.{WaitingEntry}
use Rattle.contexts.proofs.Views.{jump_fits}

-- what a resolve draws
pub draws_own : (at : ℕ) (c : Ctx) (es : List Entry) (ws : List WaitingEntry) (g : GraphState)
    → all_drawn at c ws g ≡ entries_drawn (context_of c es) (entries_of at ws) g
draws_own at c es [] g = refl
draws_own at c es (w ∷ ws) g =
    elim (waits_in at w) as
    (λ t. all_drawn at c ws (cond t (jump_added w.block (jump_of w.kind c) g) g)
    ≡ entries_drawn (context_of c es) (map entry_of (cond t (w ∷ filter (waits_in at) ws) (filter (waits_in at) ws))) g) [
      | true ↦ draws_own at c es ws _
          ∙ ap (λ o. entries_drawn (context_of c es) (entries_of at ws) (jump_added w.block o g)) (sym (jump_fits w.kind c es))
      | false ↦ draws_own at c es ws g
    ]

count_within : (p : Entry → Bool) (r : WaitingEntry → Bool) (at : ℕ) (ws : List WaitingEntry) → ((w : WaitingEntry) → r w ≡ (waits_in at w && p (entry_of w)))
    → count_by r ws ≡ count_by p (entries_of at ws)
count_within p r at [] h = refl
count_within p r at (w ∷ ws) h =
    sum_by-cons (λ (x : WaitingEntry). cond (r x) 1 0) w ws
    ∙ ap (λ t. cond t 1 0 + count_by r ws) (h w)
    ∙ elim (waits_in at w) as
    (λ t. cond (t && p (entry_of w)) 1 0 + count_by r ws ≡ count_by p (map entry_of (cond t (w ∷ filter (waits_in at) ws) (filter (waits_in at) ws)))) [
      | true ↦ ap (λ n. cond (p (entry_of w)) 1 0 + n) (count_within p r at ws h) ∙ sym (sum_by-cons (λ (e : Entry). cond (p e) 1 0) (entry_of w) (entries_of at ws))
      | false ↦ zero-add _ ∙ count_within p r at ws h
    ]

pub draws_own_count : (at : ℕ) (c : Ctx) (es : List Entry) (ws : List WaitingEntry) → count_by (draws at c) ws ≡ count_by (has_target (context_of c es)) (entries_of at ws)
draws_own_count at c es ws =
    count_within (has_target (context_of c es)) (draws at c) at ws (λ w. ap (λ o. waits_in at w && is_some o) (sym (jump_fits w.kind c es)))

pub lacks_own_count : (at : ℕ) (c : Ctx) (es : List Entry) (ws : List WaitingEntry)
    → count_by (lacks at c) ws ≡ count_by (λ (e : Entry). not (has_target (context_of c es) e)) (entries_of at ws)
lacks_own_count at c es ws =
    count_within (λ e. not (has_target (context_of c es) e)) (lacks at c) at ws (λ w. ap (λ o. waits_in at w && not (is_some o)) (sym (jump_fits w.kind c es)))

-- each entry has a target or has none
pub target_split : (c : Context) (es : List Entry) → count_by (has_target c) es + count_by (λ (e : Entry). not (has_target c e)) es ≡ length es
target_split c [] = refl
target_split c (e ∷ es) =
    let h = target_split c es in
    let a = sum_by-cons (λ (x : Entry). cond (has_target c x) 1 0) e es in
    let b = sum_by-cons (λ (x : Entry). cond (not (has_target c x)) 1 0) e es in
    let o : cond (has_target c e) 1 0 + cond (not (has_target c e)) 1 0 ≡ 1 =
    elim (has_target c e) as (λ t. cond t 1 0 + cond (not t) 1 0 ≡ 1) [ true ↦ refl | false ↦ refl ] in
    omega arith
