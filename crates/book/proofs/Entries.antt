-- Which entries an open context has after each change of the contexts, and which wait in the ledger.
use Rattle.std.proofs.Common.{◌≡◌, ℕ, ◌+◌, ◌<◌, Bool, cond, eqb, List, [], ◌∷◌, ◌++◌, length, Some, None, Option, refl, inl, inr, arith, rules}
use Rattle.std.proofs.lemmas.List.{append-nil, length_push}
use Rattle.std.proofs.lemmas.List.Sums.{sum_by_push}
use Rattle.std.proofs.lemmas.Bool.{cases_eq, eq-eqb, ne_eqb}
use Rattle.book.specs.Book.{continue_given}
use Rattle.book.specs.LawOfCounts.{entries_at}
use Rattle.book.specs.Ledger.{Fate, Given, waits_in, count_fate, waiting_in}
use Rattle.contexts.specs.Contexts.{Context, Entry, found, with_target, with_entry, changed_at, top_number, waiting_count}
use Rattle.kinds.specs.declared.context.EntryKind.{EntryKind}
use Rattle.kinds.specs.declared.context.EntryKind.TheVariants as entry
use Rattle.kinds.specs.declared.context.Label.{Label}

pub length_changed : (f : Context → Context) (i : ℕ) (cs : List Context) → length (changed_at f i cs) ≡ length cs
length_changed f i [] = refl
length_changed f i (c ∷ cs) = grind (arith, length_changed f i cs)

-- what the search finds is open
abbrev pub Within : Option ℕ → ℕ → Type 0
Within None n = Unit {0}
Within (Some i) n = i < n

pub found_within : (text : List ℕ) (j : EntryKind) (l : Option Label) (cs : List Context) → Within (found text j l cs) (length cs)
found_within text j l [] = tt
found_within text j l (c ∷ cs) = grind (arith, found_within text j l cs)

pub top_within : (cs : List Context) → Within (top_number cs) (length cs)
top_within [] = tt
top_within (c ∷ cs) = omega arith

-- a change that leaves the entries
pub entries_kept : (f : Context → Context) (m : ℕ) (cs : List Context) → ((c : Context) → (f c).entries ≡ c.entries) → (i : ℕ)
    → entries_at i (changed_at f m cs) ≡ entries_at i cs
entries_kept f m [] h i = refl
entries_kept f m (c ∷ cs) h i = grind (arith, length_changed f m cs, entries_kept f m cs h i, h c)

pub count_kept : (f : Context → Context) (m : ℕ) (cs : List Context) → ((c : Context) → (f c).entries ≡ c.entries)
    → waiting_count (changed_at f m cs) ≡ waiting_count cs
count_kept f m [] h = refl
count_kept f m (c ∷ cs) h = grind (arith, count_kept f m cs h, h c)

pub target_entries : (j : EntryKind) (t : ℕ) (c : Context) → (with_target j t c).entries ≡ c.entries
target_entries j t c = search rules

pub given_entries : (t o : Option ℕ) (cs : List Context) (i : ℕ) → entries_at i (continue_given t o cs) ≡ entries_at i cs
given_entries None o cs i = refl
given_entries (Some t) None cs i = refl
given_entries (Some t) (Some m) cs i = entries_kept (with_target entry.Continue t) m cs (target_entries entry.Continue t) i

pub given_count : (t o : Option ℕ) (cs : List Context) → waiting_count (continue_given t o cs) ≡ waiting_count cs
given_count None o cs = refl
given_count (Some t) None cs = refl
given_count (Some t) (Some m) cs = count_kept (with_target entry.Continue t) m cs (target_entries entry.Continue t)

-- one entry more
abbrev pub entry_of : EntryKind → ℕ → Entry
entry_of j b = record { kind = j; block = b }

pub entries_filed : (j : EntryKind) (b m : ℕ) (cs : List Context) → m < length cs → (i : ℕ)
    → entries_at i (changed_at (with_entry j b) m cs) ≡ entries_at i cs ++ cond (eqb i m) (entry_of j b ∷ []) []
entries_filed j b m [] l i = absurd (omega arith)
entries_filed j b m (c ∷ cs) l i = elim (cases_eq m (length cs)) [
  | inl p ↦ grind (arith, append-nil (entries_at i cs), eq-eqb m (length cs) p)
  | inr p ↦ grind (
    arith,
    length_changed (with_entry j b) m cs,
    append-nil c.entries,
    ne_eqb m (length cs) p,
    entries_filed j b m cs (omega (arith, p)) i,
  )
]

pub count_filed : (j : EntryKind) (b m : ℕ) (cs : List Context) → m < length cs → waiting_count (changed_at (with_entry j b) m cs) ≡ waiting_count cs + 1
count_filed j b m [] l = absurd (omega arith)
count_filed j b m (c ∷ cs) l = elim (cases_eq m (length cs)) [
  | inl p ↦ grind (arith, eq-eqb m (length cs) p, length_push c.entries (entry_of j b))
  | inr p ↦ grind (arith, ne_eqb m (length cs) p, count_filed j b m cs (omega (arith, p)))
]

-- the ledger's side of it
pub waiting_in_push : (i : ℕ) (gs : List Given) (g : Given)
    → waiting_in i (gs ++ g ∷ []) ≡ waiting_in i gs ++ cond (waits_in i g.fate) (entry_of g.kind g.block ∷ []) []
waiting_in_push i [] g = grind arith
waiting_in_push i (x ∷ gs) g = grind (arith, waiting_in_push i gs g)

pub count_push : (p : Fate → Bool) (gs : List Given) (g : Given) → count_fate p (gs ++ g ∷ []) ≡ count_fate p gs + cond (p g.fate) 1 0
count_push p gs g = sum_by_push (λ (x : Given). cond (p x.fate) 1 0) gs g
