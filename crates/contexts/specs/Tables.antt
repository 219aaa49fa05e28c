-- The tables that the contexts are kept in: a stack with the topmost last, and one list for the entries of all. Assumes nothing.
--
--   waits_in i w          the entry w waits in the context of the number i
--   entries_of i ws       the entries of that context, in the order filed
--   contexts_in cs ws     the contexts that the tables stand for, from a stack turned so that the topmost is first
--   jump_of ..            a target and the changes of Contexts, over a row of the stack
--   draws i c w           whether the entry w waits in the context c of the number i and has a target; lacks: whether it has none
--   all_drawn i c ws g    g with the Jump edges of those of ws that wait in the context c of the number i
--   TopIs cs ws t         t is the topmost context with its number, none with an empty stack
--   LabelsFit text cs     every label lies within the text
--   above_block w         one more than the block of w; above_context: than the number of its context
use Rattle.std.specs.Prelude.{◌≡◌, ℕ, suc, Bool, true, cond, not, ◌&&◌, List, [], ◌∷◌, map, reverse, length, take, is_some, Some, None, filter, Option, ◌==◌}
use Rattle.std.specs.List.{All, fold}
use Rattle.blocks.specs.Blocks.{GraphState}
use Rattle.contexts.specs.Contexts.{Entry, Context, label_fits, flag_set, jump_added}
use Rattle.contexts.specs.declared.ctx.Ctx.{Ctx}
use Rattle.contexts.specs.declared.ctx.WaitingEntry.{WaitingEntry}
use Rattle.contexts.specs.declared.ctx.Top.{Top}
use Rattle.kinds.specs.declared.context.EntryKind.{EntryKind}
use Rattle.kinds.specs.declared.context.EntryKind.TheVariants.{Break, Continue}

abbrev pub waits_in : ℕ → WaitingEntry → Bool
waits_in i w = w.context == i

abbrev pub entry_of : WaitingEntry → Entry
entry_of w = record { kind = w.kind; block = w.block }

abbrev pub entries_of : ℕ → List WaitingEntry → List Entry
entries_of i ws = map entry_of (filter (waits_in i) ws)

abbrev pub context_of : Ctx → List Entry → Context
context_of c es =
    record { flags = c.flags; label = c.label; entries = es; break_target = c.break_jmp; continue_target = c.continue_jmp }

abbrev pub contexts_in : List Ctx → List WaitingEntry → List Context
contexts_in [] ws = []
contexts_in (c ∷ cs) ws = context_of c (entries_of (length cs) ws) ∷ contexts_in cs ws

abbrev pub jump_of : EntryKind → Ctx → Option ℕ
jump_of Break c = c.break_jmp
jump_of Continue c = c.continue_jmp

abbrev pub with_jump : EntryKind → ℕ → Ctx → Ctx
with_jump Break t c = record { flags = c.flags; label = c.label; break_jmp = Some t; continue_jmp = c.continue_jmp }
with_jump Continue t c = record { flags = c.flags; label = c.label; break_jmp = c.break_jmp; continue_jmp = Some t }

abbrev pub allowing : EntryKind → Ctx → Ctx
allowing k c = record { flags = flag_set k c.flags; label = c.label; break_jmp = c.break_jmp; continue_jmp = c.continue_jmp }

abbrev pub one_drawn : ℕ → Ctx → WaitingEntry → GraphState → GraphState
one_drawn i c w g = cond (waits_in i w) (jump_added w.block (jump_of w.kind c) g) g

abbrev pub all_drawn : ℕ → Ctx → List WaitingEntry → GraphState → GraphState
all_drawn i c ws g = fold (λ h w. one_drawn i c w h) g ws

abbrev pub draws : ℕ → Ctx → WaitingEntry → Bool
draws i c w = waits_in i w && is_some (jump_of w.kind c)

abbrev pub lacks : ℕ → Ctx → WaitingEntry → Bool
lacks i c w = waits_in i w && not (is_some (jump_of w.kind c))

-- the context c of the number i is the topmost of the stack cs
pub record IsTop (cs : List Ctx) (ws : List WaitingEntry) (i : ℕ) (c : Ctx) : Type 0 where
  pub number : length cs ≡ suc i
  pub contexts : contexts_in (reverse cs) ws ≡ context_of c (entries_of i ws) ∷ contexts_in (reverse (take i cs)) ws
  pub below : length (contexts_in (reverse (take i cs)) ws) ≡ i

abbrev pub TopIs : List Ctx → List WaitingEntry → Option Top → Type 0
TopIs cs ws None = contexts_in (reverse cs) ws ≡ []
TopIs cs ws (Some t) = IsTop cs ws t.number t.ctx

abbrev pub LabelsFit : List ℕ → List Ctx → Type 0
LabelsFit text cs = All (λ c. label_fits text c.label ≡ true) cs

abbrev pub above_block : WaitingEntry → ℕ
above_block w = suc w.block

abbrev pub above_context : WaitingEntry → ℕ
above_context w = suc w.context
