-- The newest edge at a block, and the list of edges there.
use Rattle.std.proofs.Common.{◌≡◌, ℕ, suc, ◌+◌, ◌<◌, ◌≤◌, true, false, cond, eqb, ◌≢◌, List, [], ◌∷◌, ◌++◌, reverse, length, get_or, take, is_some, Some, None, filter, Option, sym, refl, ap, ◌∙◌, subst, inl, inr, append_assoc, add-zero, add-suc, suc-add, zero-add, add-one, arith}
use Rattle.std.proofs.lemmas.List.Elements.{filter-append}
use Rattle.std.proofs.lemmas.List.{append-nil, reverse-append, length_push, get_or_append_left, get_or_push, take-append-le, take_at, take_more, take-take, length-take-le, get_or-take}
use Rattle.std.proofs.lemmas.Option.{slice_get-get_or, none-some, same_Some}
use Rattle.std.proofs.lemmas.Bool.{cases_eq}
use Rattle.std.proofs.lemmas.Bool.Decides.{nat_tests}
use Rattle.std.specs.List.{All}
use Rattle.kinds.specs.declared.edge.Edge.{Edge}
use Rattle.store.specs.Edges.{block_at, listed, newest, newest_from, has_edge, nonempty, rest, beside, HeadOf}
use Rattle.store.specs.declared.direction.Direction.{Direction}

newest_from_push : (d : Direction) (b i : ℕ) (o : Option ℕ) (es : List Edge) (e : Edge)
    → newest_from d b i o (es ++ e ∷ []) ≡ cond (eqb (block_at d e) b) (Some (i + length es)) (newest_from d b i o es)
newest_from_push d b i o [] e = rw add-zero
newest_from_push d b i o (x ∷ es) e = newest_from_push d b (suc i) (cond (eqb (block_at d x) b) (Some i) o) es e ∙ rw (add-suc, suc-add)

newest_push : (d : Direction) (b : ℕ) (es : List Edge) (e : Edge)
    → newest d b (es ++ e ∷ []) ≡ cond (eqb (block_at d e) b) (Some (length es)) (newest d b es)
unfolding newest
newest_push d b es e = newest_from_push d b 0 None es e ∙ rw zero-add

pub newest_here : (d : Direction) (b : ℕ) (es : List Edge) (e : Edge) → block_at d e ≡ b → newest d b (es ++ e ∷ []) ≡ Some (length es)
newest_here d b es e h = newest_push d b es e ∙ (grind (arith, nat_tests))

pub newest_else : (d : Direction) (b : ℕ) (es : List Edge) (e : Edge) → block_at d e ≢ b → newest d b (es ++ e ∷ []) ≡ newest d b es
newest_else d b es e h = newest_push d b es e ∙ (grind (arith, nat_tests))

newest_nil : (d : Direction) (b : ℕ) → newest d b [] ≡ None
unfolding newest
newest_nil d b = refl

newest_from_none : (d : Direction) (b i : ℕ) (o : Option ℕ) (es : List Edge)
    → All (λ e. block_at d e ≢ b) es → newest_from d b i o es ≡ o
newest_from_none d b i o [] h = refl
newest_from_none d b i o (e ∷ es) h =
    let ne : block_at d e ≢ b = h 0 e (omega arith) in
    let off : cond (eqb (block_at d e) b) (Some i) o ≡ o = grind (arith, nat_tests) in
    newest_from_none d b (suc i) (cond (eqb (block_at d e) b) (Some i) o) es (λ k x lt. h (suc k) x (omega arith)) ∙ off

-- no edge is at b
pub newest_none : (d : Direction) (b : ℕ) (es : List Edge) → All (λ e. block_at d e ≢ b) es → newest d b es ≡ None
unfolding newest
newest_none d b es h = newest_from_none d b 0 None es h

-- a list is made by pushes
by_pushes_from : {X : Type 0} (P : List X → Type 0) → ((xs : List X) (x : X) → P xs → P (xs ++ x ∷ [])) → (front xs : List X) → P front → P (front ++ xs)
by_pushes_from P step front [] p = subst P (sym (append-nil front)) p
by_pushes_from P step front (x ∷ xs) p = subst P (append_assoc front (x ∷ []) xs) (by_pushes_from P step (front ++ x ∷ []) xs (step front x p))

by_pushes : {X : Type 0} (P : List X → Type 0) → P [] → ((xs : List X) (x : X) → P xs → P (xs ++ x ∷ [])) → (xs : List X) → P xs
by_pushes P none step xs = by_pushes_from P step [] xs none

listed_here : (d : Direction) (b : ℕ) (es : List Edge) (e : Edge) → block_at d e ≡ b → listed d b (es ++ e ∷ []) ≡ e ∷ listed d b es
listed_here d b es e h =
    let t : eqb (block_at d e) b ≡ true = grind (arith, nat_tests) in
    ap reverse (filter-append (λ x. eqb (block_at d x) b) es (e ∷ [])) ∙ (rw t (reverse-append (filter (λ x. eqb (block_at d x) b) es) (e ∷ [])))

listed_else : (d : Direction) (b : ℕ) (es : List Edge) (e : Edge) → block_at d e ≢ b → listed d b (es ++ e ∷ []) ≡ listed d b es
listed_else d b es e h =
    let t : eqb (block_at d e) b ≡ false = grind (arith, nat_tests) in
    ap reverse (filter-append (λ x. eqb (block_at d x) b) es (e ∷ [])) ∙ (rw t (ap reverse (append-nil (filter (λ x. eqb (block_at d x) b) es))))

listed_none : (d : Direction) (b : ℕ) (es : List Edge) → newest d b es ≡ None → listed d b es ≡ []
listed_none d b es =
    let P : List Edge → Type 0 = λ xs. newest d b xs ≡ None → listed d b xs ≡ [] in
    by_pushes P (λ _. refl)
    (λ xs x ih z. elim (cases_eq (block_at d x) b) [
      | inl h ↦ absurd (none-some _ (sym z ∙ newest_here d b xs x h))
      | inr h ↦ (listed_else d b xs x h ∙ ih (sym (newest_else d b xs x h) ∙ z))
    ]) es

-- the newest edge k at b heads the list of b
pub record Heads (d : Direction) (b : ℕ) (es : List Edge) (k : ℕ) (x : Edge) : Type 0 where
  pub known : k < length es
  pub here : block_at d (get_or es k x) ≡ b
  pub list : listed d b es ≡ get_or es k x ∷ listed d b (take k es)

pub listed_some : (d : Direction) (b : ℕ) (es : List Edge) (k : ℕ) (x : Edge) → newest d b es ≡ Some k → Heads d b es k x
listed_some d b es k x =
    let P : List Edge → Type 0 = λ xs. newest d b xs ≡ Some k → Heads d b xs k x in
    by_pushes P (λ z. absurd (none-some k (sym (newest_nil d b) ∙ z)))
    (λ xs y ih z. elim (cases_eq (block_at d y) b) [
      | inl h ↦ (let e : length xs ≡ k = same_Some _ _ (sym (newest_here d b xs y h) ∙ z) in
          let g = get_or_push xs y x k e in
          let t = take_at xs (y ∷ []) k e in
          record { known = omega (arith, length_push xs y); here = ap (block_at d) g ∙ h; list = listed_here d b xs y h ∙ (rw (g, t)) })
      | inr h ↦ (let m = ih (sym (newest_else d b xs y h) ∙ z) in
          let lt : k < length xs = m.known in
          let le : k ≤ length xs = omega arith in
          let g = get_or_append_left xs (y ∷ []) x k lt in
          let t = take-append-le k xs (y ∷ []) le in
          record { known = omega (arith, length_push xs y); here = ap (block_at d) g ∙ m.here; list = listed_else d b xs y h ∙ m.list ∙ (rw (g, t)) })
    ]) es

-- what the place of an edge stands for
rest_at : (d : Direction) (es : List Edge) (k : ℕ) (x : Edge) → k < length es
    → rest d es (Some k) ≡ get_or es k x ∷ listed d (block_at d (get_or es k x)) (take k es)
rest_at d es k x lt =
    ap (λ o. beside d o (take (suc k) es)) (slice_get-get_or es k x lt)
    ∙ ap (listed d (block_at d (get_or es k x))) (ap (λ n. take n es) (sym (add-one k)) ∙ take_more es k x lt)
    ∙ listed_here d (block_at d (get_or es k x)) (take k es) (get_or es k x) refl

-- a head's place stands for the whole list
rest_head : (d : Direction) (b : ℕ) (es : List Edge) (o : Option ℕ) (x : Edge) → o ≡ newest d b es → rest d es o ≡ listed d b es
rest_head d b es None x h = sym (listed_none d b es (sym h))
rest_head d b es (Some k) x h =
    let f = listed_some d b es k x (sym h) in
    rest_at d es k x f.known ∙ ap (λ c. get_or es k x ∷ listed d c (take k es)) f.here ∙ sym f.list

rest_newest : (d : Direction) (b : ℕ) (es : List Edge) → rest d es (newest d b es) ≡ listed d b es
rest_newest d b [] = ap (rest d []) (newest_nil d b)
rest_newest d b (e ∷ es) = rest_head d b (e ∷ es) (newest d b (e ∷ es)) e refl

has_some : (d : Direction) (b : ℕ) (es : List Edge) (o : Option ℕ) (x : Edge) → o ≡ newest d b es → is_some o ≡ has_edge d b es
has_some d b es None x h = ap nonempty (sym (listed_none d b es (sym h)))
has_some d b es (Some k) x h = ap nonempty (sym (listed_some d b es k x (sym h)).list)

newest_has : (d : Direction) (b : ℕ) (es : List Edge) → is_some (newest d b es) ≡ has_edge d b es
newest_has d b [] = ap is_some (newest_nil d b)
newest_has d b (e ∷ es) = has_some d b (e ∷ es) (newest d b (e ∷ es)) e refl

-- a place in the first edges stands for the same in all of them
rest_cut : (d : Direction) (b k : ℕ) (es : List Edge) (o : Option ℕ) (x : Edge) → k ≤ length es → o ≡ newest d b (take k es)
    → rest d es o ≡ rest d (take k es) o
rest_cut d b k es None x le h = refl
rest_cut d b k es (Some j) x le h =
    let f = listed_some d b (take k es) j x (sym h) in
    let lt : j < k = omega (arith, f.known, length-take-le k es le) in
    let l : j < length es = omega arith in
    let g : get_or (take k es) j x ≡ get_or es j x = get_or-take k es j x lt in
    rest_at d es j x l ∙ ap (λ y. y ∷ listed d (block_at d y) (take j es)) (sym g)
    ∙ ap (λ t. get_or (take k es) j x ∷ listed d (block_at d (get_or (take k es) j x)) t) (sym (take-take j k es (omega arith)))
    ∙ sym (rest_at d (take k es) j x f.known)

-- a next place stands for what follows
pub rest_next : (d : Direction) (es : List Edge) (k : ℕ) (x : Edge) (o : Option ℕ)
    → k < length es → o ≡ newest d (block_at d (get_or es k x)) (take k es) → rest d es (Some k) ≡ get_or es k x ∷ rest d es o
rest_next d es k x o lt h =
    let le : k ≤ length es = omega arith in
    let b = block_at d (get_or es k x) in
    rest_at d es k x lt ∙ ap (λ l. get_or es k x ∷ l) (sym (rest_cut d b k es o x le h ∙ rest_head d b (take k es) o x h))

pub newest_head : (d : Direction) (b : ℕ) (es : List Edge) (p : Option ℕ) → p ≡ newest d b es → HeadOf d b es p
newest_head d b es p e = record { value = e; list = ap (rest d es) e ∙ rest_newest d b es; some = ap is_some e ∙ newest_has d b es }
