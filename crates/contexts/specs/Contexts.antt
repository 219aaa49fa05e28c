-- The open contexts: what one holds, the search for one, and what resolving one draws. Assumes nothing.
--
--   Entry                    a break or a continue that waits, with the block that it leaves from
--   Context                  flags, perhaps a label, its entries in the order filed, and at most one target of each kind
--   a list of contexts       the topmost first; the number of a context is how many are below it
--   label_fits text l        whether the label l, if there is one, lies within the text
--   found text k l cs        the number of the context at which the search for the kind k and the label l ends
--   changed_at f i cs        cs with the context of the number i changed by f
--   entries_drawn c es g     g with the Jump edges of the entries es of the context c, in their order; none for an entry with no target
--   resolve_counts cs        how many entries of the topmost context have a target, and how many have none; none with no context open
--   below_top cs             the contexts but the topmost
--   waiting_count cs         how many entries wait, in all contexts together
--   block_bound c            a number above every block that the context c names, 0 if it names none
use Rattle.std.specs.Prelude.{ℕ, suc, ◌+◌, max, Bool, true, false, cond, not, ◌&&◌, List, [], ◌∷◌, ◌++◌, length, take, drop, is_some, Some, None, count_by, Option, ◌==◌, nat_le}
use Rattle.std.specs.Str.{bytes_eq}
use Rattle.blocks.specs.Blocks.{GraphState, edge_added}
use Rattle.blocks.specs.Highest.{above, highest}
use Rattle.kinds.specs.declared.context.CtxFlags.{CtxFlags}
use Rattle.kinds.specs.declared.context.EntryKind.{EntryKind}
use Rattle.kinds.specs.declared.context.EntryKind.TheVariants.{Break, Continue}
use Rattle.kinds.specs.declared.context.Label.{Label}
use Rattle.kinds.specs.declared.edge.EdgeType.TheVariants.{Jump}

pub record Entry : Type 0 where
  pub kind : EntryKind
  pub block : ℕ

pub record Context : Type 0 where
  pub flags : CtxFlags
  pub label : Option Label
  pub entries : List Entry
  pub break_target : Option ℕ
  pub continue_target : Option ℕ

-- a context just opened
abbrev pub opened : CtxFlags → Option Label → Context
opened f l = record { flags = f; label = l; entries = []; break_target = None; continue_target = None }

-- the bytes of a label
abbrev pub label_bytes : List ℕ → Label → List ℕ
label_bytes text l = take l.length (drop l.offset text)

abbrev pub label_fits : List ℕ → Option Label → Bool
label_fits text None = true
label_fits text (Some l) = nat_le (l.offset + l.length) (length text)

-- whether a context's own label has the bytes of the label sought; with none sought any will do
abbrev pub label_matches : List ℕ → Option Label → Option Label → Bool
label_matches text None own = true
label_matches text (Some l) None = false
label_matches text (Some l) (Some m) = bytes_eq (label_bytes text l) (label_bytes text m)

-- whether the flag of a kind is set
abbrev pub has_flag : EntryKind → CtxFlags → Bool
has_flag Break f = f.breaks
has_flag Continue f = f.continues

-- down from the top, the first that has the kind's flag and the label; the search ends before the first function
abbrev pub found : List ℕ → EntryKind → Option Label → List Context → Option ℕ
found text k l [] = None
found text k l (c ∷ cs) =
    cond c.flags.function None
    (cond (has_flag k c.flags && label_matches text l c.label) (Some (length cs)) (found text k l cs))

-- the target of a kind
abbrev pub target_of : EntryKind → Context → Option ℕ
target_of Break c = c.break_target
target_of Continue c = c.continue_target

abbrev pub with_target : EntryKind → ℕ → Context → Context
with_target Break t c =
    record { flags = c.flags; label = c.label; entries = c.entries; break_target = Some t; continue_target = c.continue_target }
with_target Continue t c =
    record { flags = c.flags; label = c.label; entries = c.entries; break_target = c.break_target; continue_target = Some t }

abbrev pub with_entry : EntryKind → ℕ → Context → Context
with_entry k b c = record {
  flags = c.flags;
  label = c.label;
  entries = c.entries ++ record { kind = k; block = b } ∷ [];
  break_target = c.break_target;
  continue_target = c.continue_target;
}

abbrev pub flag_set : EntryKind → CtxFlags → CtxFlags
flag_set Break f = record { function = f.function; breaks = true; continues = f.continues }
flag_set Continue f = record { function = f.function; breaks = f.breaks; continues = true }

abbrev pub with_flag : EntryKind → Context → Context
with_flag k c = record {
  flags = flag_set k c.flags;
  label = c.label;
  entries = c.entries;
  break_target = c.break_target;
  continue_target = c.continue_target;
}

abbrev pub changed_at : {X : Type 0} → (X → X) → ℕ → List X → List X
changed_at f i [] = []
changed_at f i (c ∷ cs) = cond (i == length cs) (f c ∷ cs) (c ∷ changed_at f i cs)

-- the target of a kind in the context of a number
abbrev pub target_at : EntryKind → ℕ → List Context → Option ℕ
target_at k i [] = None
target_at k i (c ∷ cs) = cond (i == length cs) (target_of k c) (target_at k i cs)

-- the number, the flags and the continue target of the topmost context
abbrev pub top_number : List Context → Option ℕ
top_number [] = None
top_number (c ∷ cs) = Some (length cs)

abbrev pub top_flags : List Context → Option CtxFlags
top_flags [] = None
top_flags (c ∷ cs) = Some c.flags

abbrev pub top_continue : List Context → Option ℕ
top_continue [] = None
top_continue (c ∷ cs) = c.continue_target

abbrev pub below_top : List Context → List Context
below_top [] = []
below_top (c ∷ cs) = cs

-- the number of the topmost context, if it is labelled and has no continue target
abbrev pub upper_label : List Context → Option ℕ
upper_label [] = None
upper_label (c ∷ cs) = cond (is_some c.label && not (is_some c.continue_target)) (Some (length cs)) None

-- the Jump edge of an entry, where its target is marked
abbrev pub jump_added : ℕ → Option ℕ → GraphState → GraphState
jump_added b None g = g
jump_added b (Some t) g = edge_added b t Jump g

abbrev pub entries_drawn : Context → List Entry → GraphState → GraphState
entries_drawn c [] g = g
entries_drawn c (e ∷ es) g = entries_drawn c es (jump_added e.block (target_of e.kind c) g)

-- the graph with the Jump edges of the topmost context
abbrev pub top_drawn : List Context → GraphState → GraphState
top_drawn [] g = g
top_drawn (c ∷ cs) g = entries_drawn c c.entries g

abbrev pub has_target : Context → Entry → Bool
has_target c e = is_some (target_of e.kind c)

abbrev pub drawn_count : Context → ℕ
drawn_count c = count_by (has_target c) c.entries

abbrev pub untargeted_count : Context → ℕ
untargeted_count c = count_by (λ e. not (has_target c e)) c.entries

abbrev pub resolve_counts : List Context → Option (ℕ × ℕ)
resolve_counts [] = None
resolve_counts (c ∷ cs) = Some (drawn_count c, untargeted_count c)

-- the first of a pair of counts, 0 with no pair: how many edges a resolve draws
abbrev pub drawn_of : Option (ℕ × ℕ) → ℕ
drawn_of None = 0
drawn_of (Some p) = p.0

abbrev pub waiting_count : List Context → ℕ
waiting_count [] = 0
waiting_count (c ∷ cs) = length c.entries + waiting_count cs

abbrev pub above_entry : Entry → ℕ
above_entry e = suc e.block

abbrev pub block_bound : Context → ℕ
block_bound c = max (max (above c.break_target) (above c.continue_target)) (highest above_entry c.entries)
