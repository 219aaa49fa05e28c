-- What the tables stand for after each change.
use Rattle.std.proofs.Common.{◌≡◌, ℕ, suc, ◌+◌, ◌-◌, ◌<◌, ◌≤◌, min, cond, not, List, [], ◌∷◌, ◌++◌, map, reverse, length, get_or, take, drop, set, vec_items, vec_len, filter, sym, refl, ap, ◌∙◌, append_assoc, inl, inr, arith}
use Rattle.std.proofs.Math.Seq.{split_at}
use Rattle.std.proofs.lemmas.List.{append-nil, drop-set-lt, get_or-set_same, length-append, length-set, length-take, length-take-le, map-append, reverse-append, length-reverse, take-set, take_more, take_all}
use Rattle.std.proofs.lemmas.List.Elements.{filter-append}
use Rattle.std.proofs.lemmas.Bool.{cases_eq, eq-eqb, ne_eqb}
use Rattle.blocks.specs.Highest.{highest}
use Rattle.contexts.specs.Contexts.{Entry, Context, target_of, target_at, with_target, with_entry, changed_at}
use Rattle.contexts.specs.Tables.{waits_in, entry_of, entries_of, context_of, contexts_in, jump_of, with_jump, above_context, IsTop}
use Rattle.contexts.specs.View.{contexts_of}
use Rattle.contexts.specs.declared.ctx.Ctx.{Ctx}
use Rattle.contexts.specs.declared.ctx.WaitingEntry.{WaitingEntry}
use Rattle.contexts.specs.declared.ctx_stack.CtxStack.{CtxStack}
use Rattle.kinds.specs.declared.context.EntryKind.{EntryKind}
use Rattle.kinds.specs.declared.context.EntryKind.TheVariants.{Break, Continue}

pub contexts_length : (cs : List Ctx) (ws : List WaitingEntry) → length (contexts_in cs ws) ≡ length cs
contexts_length [] ws = refl
contexts_length (c ∷ cs) ws = ap suc (contexts_length cs ws)

pub target_fits : (k : EntryKind) (t : ℕ) (c : Ctx) (es : List Entry) → context_of (with_jump k t c) es ≡ with_target k t (context_of c es)
target_fits Break t c es = refl
target_fits Continue t c es = refl

pub jump_fits : (k : EntryKind) (c : Ctx) (es : List Entry) → target_of k (context_of c es) ≡ jump_of k c
jump_fits Break c es = refl
jump_fits Continue c es = refl

-- the stack around the context of a number, the topmost first
reverse_mid : {X : Type 0} (xs : List X) (i : ℕ) (d : X) → i < length xs → reverse xs ≡ reverse (drop (suc i) xs) ++ get_or xs i d ∷ reverse (take i xs)
reverse_mid xs i d l =
    ap reverse (split_at xs i d l) ∙ reverse-append (take i xs) (get_or xs i d ∷ drop (suc i) xs)
    ∙ ap (λ z. z ++ reverse (take i xs)) (reverse-append (get_or xs i d ∷ []) (drop (suc i) xs))
    ∙ append_assoc (reverse (drop (suc i) xs)) (get_or xs i d ∷ []) (reverse (take i xs))

reverse_set : {X : Type 0} (xs : List X) (i : ℕ) (y : X) → i < length xs → reverse (set xs i y) ≡ reverse (drop (suc i) xs) ++ y ∷ reverse (take i xs)
reverse_set xs i y l =
    let lt : i < length (set xs i y) = omega (arith, length-set xs i y) in
    let past : i < suc i = omega arith in
    reverse_mid (set xs i y) i y lt ∙ rw (drop-set-lt (suc i) xs i y past, get_or-set_same xs i y y l, take-set xs i y)

below : {X : Type 0} (xs : List X) (i : ℕ) → i < length xs → length (reverse (take i xs)) ≡ i
below xs i l = let le : i ≤ length xs = omega arith in length-reverse (take i xs) ∙ length-take-le i xs le

module _ (k : EntryKind) (ws : List WaitingEntry) (i : ℕ) (x : Ctx) (back : List Ctx) (e : length back ≡ i) where
  above : (front : List Ctx) → i ≡ length (front ++ x ∷ back) → ⊥
  above front z = omega (arith, length-append front (x ∷ back))

  target_mid : (front : List Ctx) → target_at k i (contexts_in (front ++ x ∷ back) ws) ≡ jump_of k x
  target_mid [] = rw (contexts_length back ws, eq-eqb i (length back) (sym e)) (jump_fits k x (entries_of (length back) ws))
  target_mid (c ∷ front) = rw (contexts_length (front ++ x ∷ back) ws, ne_eqb i (length (front ++ x ∷ back)) (above front)) (target_mid front)

  changed_mid : (f : Context → Context) (y : Ctx) → ((es : List Entry) → context_of y es ≡ f (context_of x es)) → (front : List Ctx)
      → changed_at f i (contexts_in (front ++ x ∷ back) ws) ≡ contexts_in (front ++ y ∷ back) ws
  changed_mid f y h [] =
      rw (contexts_length back ws, eq-eqb i (length back) (sym e)) (ap (λ z. z ∷ contexts_in back ws) (sym (h (entries_of (length back) ws))))
  changed_mid f y h (c ∷ front) =
      let n : length (front ++ x ∷ back) ≡ length (front ++ y ∷ back) = length-append front (x ∷ back) ∙ sym (length-append front (y ∷ back)) in
      rw (contexts_length (front ++ x ∷ back) ws, ne_eqb i (length (front ++ x ∷ back)) (above front))
      (ap (λ m. context_of c (entries_of m ws) ∷ changed_at f i (contexts_in (front ++ x ∷ back) ws)) n
      ∙ ap (λ z. context_of c (entries_of (length (front ++ y ∷ back)) ws) ∷ z) (changed_mid f y h front))

-- an entry more
entries_push : (i : ℕ) (ws : List WaitingEntry) (w : WaitingEntry) → entries_of i (ws ++ w ∷ []) ≡ entries_of i ws ++ entries_of i (w ∷ [])
entries_push i ws w =
    ap (map entry_of) (filter-append (waits_in i) ws (w ∷ [])) ∙ map-append entry_of (filter (waits_in i) ws) (filter (waits_in i) (w ∷ []))

entries_other : (i : ℕ) (ws : List WaitingEntry) (w : WaitingEntry) → (w.context ≡ i → ⊥) → entries_of i (ws ++ w ∷ []) ≡ entries_of i ws
entries_other i ws w q = entries_push i ws w ∙ rw (ne_eqb w.context i q) (append-nil (entries_of i ws))

entries_here : (i : ℕ) (ws : List WaitingEntry) (w : WaitingEntry) → w.context ≡ i → entries_of i (ws ++ w ∷ []) ≡ entries_of i ws ++ entry_of w ∷ []
entries_here i ws w q = entries_push i ws w ∙ rw (eq-eqb w.context i q)

contexts_past : (cs : List Ctx) (ws : List WaitingEntry) (w : WaitingEntry) → length cs ≤ w.context → contexts_in cs (ws ++ w ∷ []) ≡ contexts_in cs ws
contexts_past [] ws w l = refl
contexts_past (c ∷ cs) ws w l = (let q : w.context ≡ length cs → ⊥ = λ z. omega arith in
    ap (λ z. context_of c z ∷ contexts_in cs (ws ++ w ∷ [])) (entries_other (length cs) ws w q)
    ∙ ap (λ z. context_of c (entries_of (length cs) ws) ∷ z) (contexts_past cs ws w (omega arith)))

pub contexts_filed : (cs : List Ctx) (ws : List WaitingEntry) (w : WaitingEntry)
    → contexts_in cs (ws ++ w ∷ []) ≡ changed_at (with_entry w.kind w.block) w.context (contexts_in cs ws)
contexts_filed [] ws w = refl
contexts_filed (c ∷ cs) ws w =
    rw (contexts_length cs ws) (elim (cases_eq w.context (length cs)) [
      | inl p ↦ rw (eq-eqb w.context (length cs) p) (let past : length cs ≤ w.context = omega arith in
          ap (λ z. context_of c z ∷ contexts_in cs (ws ++ w ∷ [])) (entries_here (length cs) ws w p)
          ∙ ap (λ z. with_entry w.kind w.block (context_of c (entries_of (length cs) ws)) ∷ z) (contexts_past cs ws w past))
      | inr p ↦ rw (ne_eqb w.context (length cs) p) (ap (λ z. context_of c z ∷ contexts_in cs (ws ++ w ∷ [])) (entries_other (length cs) ws w p)
          ∙ ap (λ z. context_of c (entries_of (length cs) ws) ∷ z) (contexts_filed cs ws w))
    ])

-- a context just opened has no entries
pub entries_none : (n : ℕ) (ws : List WaitingEntry) → highest above_context ws ≤ n → entries_of n ws ≡ []
entries_none n [] l = refl
entries_none n (w ∷ ws) l = (let q : w.context ≡ n → ⊥ = λ z. omega arith in rw (ne_eqb w.context n q) (entries_none n ws (omega arith)))

pub reverse_push : {X : Type 0} (xs : List X) (x : X) → reverse (xs ++ x ∷ []) ≡ x ∷ reverse xs
reverse_push xs x = reverse-append xs (x ∷ [])

pub contexts_opened : (xs : List Ctx) (c : Ctx) (ws : List WaitingEntry) → highest above_context ws ≤ length xs
    → contexts_in (reverse (xs ++ c ∷ [])) ws ≡ context_of c [] ∷ contexts_in (reverse xs) ws
contexts_opened xs c ws l = ap (λ z. contexts_in z ws) (reverse_push xs c)
    ∙ ap (λ z. context_of c z ∷ contexts_in (reverse xs) ws) (ap (λ n. entries_of n ws) (length-reverse xs) ∙ entries_none (length xs) ws l)

-- the topmost and those below it
pub reverse_top : {X : Type 0} (xs : List X) (x : X) → 0 < length xs → x ≡ get_or xs (length xs - 1) x → reverse xs ≡ x ∷ reverse (take (length xs - 1) xs)
reverse_top xs x l e =
    let lt : length xs - 1 < length xs = omega arith in
    let le : length xs ≤ length xs - 1 + 1 = omega arith in
    ap reverse (sym (take_all (length xs - 1 + 1) xs le) ∙ take_more xs (length xs - 1) x lt)
    ∙ reverse_push (take (length xs - 1) xs) (get_or xs (length xs - 1) x) ∙ ap (λ z. z ∷ reverse (take (length xs - 1) xs)) (sym e)

-- entries of a context that is closed are let go
entries_kept : (i n : ℕ) (ws : List WaitingEntry) → (i ≡ n → ⊥) → filter (waits_in i) (filter (λ w. not (waits_in n w)) ws) ≡ filter (waits_in i) ws
entries_kept i n [] q = refl
entries_kept i n (w ∷ ws) q =
    elim (cases_eq w.context n) [
      | inl p ↦ (let o : w.context ≡ i → ⊥ = λ z. q (sym z ∙ p) in rw (eq-eqb w.context n p, ne_eqb w.context i o) (entries_kept i n ws q))
      | inr p ↦ rw (ne_eqb w.context n p) (ap (λ z. cond (waits_in i w) (w ∷ z) z) (entries_kept i n ws q))
    ]

pub contexts_kept : (n : ℕ) (cs : List Ctx) (ws : List WaitingEntry) → length cs ≤ n → contexts_in cs (filter (λ w. not (waits_in n w)) ws) ≡ contexts_in cs ws
contexts_kept n [] ws l = refl
contexts_kept n (c ∷ cs) ws l = (let q : length cs ≡ n → ⊥ = λ z. omega arith in
    ap (λ z. context_of c (map entry_of z) ∷ contexts_in cs (filter (λ w. not (waits_in n w)) ws)) (entries_kept (length cs) n ws q)
    ∙ ap (λ z. context_of c (entries_of (length cs) ws) ∷ z) (contexts_kept n cs ws (omega arith)))

pub numbers_kept : (n : ℕ) (ws : List WaitingEntry) → highest above_context ws ≤ suc n → highest above_context (filter (λ w. not (waits_in n w)) ws) ≤ n
numbers_kept n [] l = omega arith
numbers_kept n (w ∷ ws) l =
    let h = numbers_kept n ws (omega arith) in
    elim (cases_eq w.context n) [
      | inl p ↦ rw (eq-eqb w.context n p) h
      | inr p ↦ rw (ne_eqb w.context n p) (omega (arith, p, h))
    ]

-- the target that is read at a number, and a write to one context of the stack
pub contexts_target : (k : EntryKind) (xs : List Ctx) (ws : List WaitingEntry) (i : ℕ) (d : Ctx) → i < length xs
    → target_at k i (contexts_in (reverse xs) ws) ≡ jump_of k (get_or xs i d)
contexts_target k xs ws i d l =
    ap (λ z. target_at k i (contexts_in z ws)) (reverse_mid xs i d l)
    ∙ target_mid k ws i (get_or xs i d) (reverse (take i xs)) (below xs i l) (reverse (drop (suc i) xs))

pub contexts_set : (f : Context → Context) (xs : List Ctx) (i : ℕ) (new old : Ctx) (ws : List WaitingEntry) → i < length xs → old ≡ get_or xs i old
    → ((es : List Entry) → context_of new es ≡ f (context_of old es))
    → contexts_in (reverse (set xs i new)) ws ≡ changed_at f i (contexts_in (reverse xs) ws)
contexts_set f xs i new old ws l e h =
    let front = reverse (drop (suc i) xs) in
    let back = reverse (take i xs) in
    let mid : reverse xs ≡ front ++ old ∷ back = reverse_mid xs i old l ∙ ap (λ z. front ++ z ∷ back) (sym e) in
    ap (λ z. contexts_in z ws) (reverse_set xs i new l)
    ∙ sym (ap (λ z. changed_at f i (contexts_in z ws)) mid ∙ changed_mid Break ws i old back (below xs i l) f new h front)

pub contexts_count : (xs : List Ctx) (ws : List WaitingEntry) → length (contexts_in (reverse xs) ws) ≡ length xs
contexts_count xs ws = contexts_length (reverse xs) ws ∙ length-reverse xs

-- the topmost, as it is read from the stack
pub is_top : (cs : List Ctx) (ws : List WaitingEntry) (n : ℕ) (c : Ctx) → n ≡ length cs → 0 < n → c ≡ get_or cs (n - 1) c → IsTop cs ws (n - 1) c
is_top cs ws n c e l g =
    let lt : 0 < length cs = omega arith in
    let h : length cs - 1 ≡ n - 1 = ap (λ m. m - 1) (sym e) in
    let m : length (reverse (take (length cs - 1) cs)) ≡ length cs - 1 =
    length-reverse (take (length cs - 1) cs) ∙ length-take (length cs - 1) cs ∙ least (length cs) in
    record {
      number = omega arith;
      contexts = ap (λ z. contexts_in z ws) (reverse_top cs c lt (g ∙ ap (λ k. get_or cs k c) (sym h)))
          ∙ ap (λ k. context_of c (entries_of k ws) ∷ contexts_in (reverse (take (length cs - 1) cs)) ws) m
          ∙ ap (λ k. context_of c (entries_of k ws) ∷ contexts_in (reverse (take k cs)) ws) h;
      below = omega (arith, length-take (n - 1) cs, contexts_count (take (n - 1) cs) ws);
    }
  where
    least : (n : ℕ) → min (n - 1) n ≡ n - 1
    least n = omega arith

-- the tables' sizes, as the contracts say them
pub context_index : (s : CtxStack) (i : ℕ) → i < length (contexts_of s) → i < vec_len s.stack
context_index s i l = omega (arith, contexts_count (vec_items s.stack) (vec_items s.waiting), s.stack.ok.0)
