-- A resolve, on the graph and on the ledger.
use Rattle.std.proofs.Common.{◌≡◌, ℕ, suc, ◌+◌, Bool, true, false, cond, not, List, [], ◌∷◌, length, Some, None, count_by, Option, sym, refl, ap, ◌∙◌, subst, arith}
use Rattle.std.proofs.lemmas.List.{length_push}
use Rattle.std.proofs.lemmas.List.Sums.{sum_by-cons}
use Rattle.std.proofs.lemmas.Bool.{ne_eqb, eqb-true}
use Rattle.std.specs.List.{slice_get}
use Rattle.blocks.specs.Blocks.{GraphState, edge_added}
use Rattle.book.specs.LawOfCounts.{jump_at, EdgesStand}
use Rattle.book.specs.Ledger.{Fate, Waiting, Drawn, Untargeted, Given, waits_in, drawn_as, count_fate, waiting_in, resolved_fate, next_edge, resolved_in}
use Rattle.contexts.specs.Contexts.{Context, Entry, target_of, jump_added, entries_drawn, has_target}
use Rattle.kinds.specs.declared.edge.Edge.{Edge}
use Rattle.kinds.specs.declared.edge.EdgeType.TheVariants as edge
use Rattle.book.proofs.Edges.{jump_at_push, edge_at_more, edge_at_here, Stay, edge_stays, edges_stay}
use Rattle.book.proofs.Entries.{entry_of}

-- x is the number of the next edge; gs is the ledger before, hs after, and es are the entries
pub data Resolves (c : Context) (i : ℕ) : ℕ → List Given → List Given → List Entry → Type 0 where
  none : (x : ℕ) → Resolves c i x [] [] []
  skip : (x : ℕ) (g : Given) (gs hs : List Given) (es : List Entry) → waits_in i g.fate ≡ false → Resolves c i x gs hs es
      → Resolves c i x (g ∷ gs) (g ∷ hs) es
  miss : (x : ℕ) (g : Given) (gs hs : List Given) (es : List Entry) → g.fate ≡ Waiting i → target_of g.kind c ≡ None → Resolves c i x gs hs es →
      Resolves c i x (g ∷ gs) (record { kind = g.kind; block = g.block; fate = Untargeted } ∷ hs) (entry_of g.kind g.block ∷ es)
  draw : (x t : ℕ) (g : Given) (gs hs : List Given) (es : List Entry) → g.fate ≡ Waiting i → target_of g.kind c ≡ Some t → Resolves c i (suc x) gs hs es →
      Resolves c i x (g ∷ gs) (record { kind = g.kind; block = g.block; fate = Drawn x t } ∷ hs) (entry_of g.kind g.block ∷ es)

waits : (i : ℕ) (f : Fate) → waits_in i f ≡ true → f ≡ Waiting i
waits i f h = grind (arith, eqb-true)

pub resolves : (c : Context) (i x : ℕ) (gs : List Given) → Resolves c i x gs (resolved_in c i x gs) (waiting_in i gs)
resolves c i x [] = none x
resolves c i x (g ∷ gs) = by (λ z. resolves c i z gs) (waits_in i g.fate) refl
  where
    hit : ((z : ℕ) → Resolves c i z gs (resolved_in c i z gs) (waiting_in i gs)) → (o : Option ℕ) → g.fate ≡ Waiting i → target_of g.kind c ≡ o
        → Resolves c i x (g ∷ gs) (record { kind = g.kind; block = g.block; fate = resolved_fate o x } ∷ resolved_in c i (next_edge o x) gs)
        (entry_of g.kind g.block ∷ waiting_in i gs)
    hit r None f e = miss x g gs _ _ f e (r x)
    hit r (Some t) f e = draw x t g gs _ _ f e (r (suc x))

    by : ((z : ℕ) → Resolves c i z gs (resolved_in c i z gs) (waiting_in i gs)) → (t : Bool) → waits_in i g.fate ≡ t → Resolves c i x (g ∷ gs)
        (cond t (record { kind = g.kind; block = g.block; fate = resolved_fate (target_of g.kind c) x } ∷ resolved_in c i
        (next_edge (target_of g.kind c) x) gs) (g ∷ resolved_in c i x gs))
        (cond t (entry_of g.kind g.block ∷ waiting_in i gs) (waiting_in i gs))
    by r true h = hit r (target_of g.kind c) (waits i g.fate h) refl
    by r false h = skip x g gs _ _ h (r x)

by_cons : {X : Type 0} (p : X → Bool) (x : X) (xs : List X) → count_by p (x ∷ xs) ≡ cond (p x) 1 0 + count_by p xs
by_cons p x xs = sum_by-cons (λ y. cond (p y) 1 0) x xs

pub count_cons : (p : Fate → Bool) (g : Given) (gs : List Given) → count_fate p (g ∷ gs) ≡ cond (p g.fate) 1 0 + count_fate p gs
count_cons p g gs = by_cons (λ (x : Given). p x.fate) g gs

-- x is the number of the next edge; gs is the ledger before, hs after, and es are the entries
module _ (c : Context) (i : ℕ) where
  pub length_resolved : {x : ℕ} {gs hs : List Given} {es : List Entry} → Resolves c i x gs hs es → length hs ≡ length gs
  length_resolved (none _) = refl
  length_resolved (skip _ g gs hs es w r) = ap suc (length_resolved r)
  length_resolved (miss _ g gs hs es f e r) = ap suc (length_resolved r)
  length_resolved (draw _ t g gs hs es f e r) = ap suc (length_resolved r)

  -- the count of the fates that p has: those that wait if w, those that are drawn if d, those that are untargeted if u
  pub counted : (p : Fate → Bool) (w d u : Bool) → ((j : ℕ) → p (Waiting j) ≡ w) → ((y t : ℕ) → p (Drawn y t) ≡ d) → p Untargeted ≡ u
      → {x : ℕ} {gs hs : List Given} {es : List Entry} → Resolves c i x gs hs es
      → count_fate p hs + cond w (length es) 0
      ≡ count_fate p gs + cond d (count_by (has_target c) es) 0 + cond u (count_by (λ (e : Entry). not (has_target c e)) es) 0
  counted p w d u pw pd pu (none _) = grind arith
  counted p w d u pw pd pu (skip _ g gs hs es _ r) = omega (arith, counted p w d u pw pd pu r, count_cons p g gs, count_cons p g hs)
  counted p w d u pw pd pu (miss _ g gs hs es f e r) =
      let a : Entry = entry_of g.kind g.block in
      grind (
        arith,
        counted p w d u pw pd pu r,
        pw i,
        count_cons p g gs,
        count_cons p (record { kind = g.kind; block = g.block; fate = Untargeted }) hs,
        by_cons (has_target c) a es,
        by_cons (λ (y : Entry). not (has_target c y)) a es,
      )
  counted p w d u pw pd pu (draw x t g gs hs es f e r) =
      let a : Entry = entry_of g.kind g.block in
      grind (
        arith,
        counted p w d u pw pd pu r,
        pw i,
        pd x t,
        count_cons p g gs,
        count_cons p (record { kind = g.kind; block = g.block; fate = Drawn x t }) hs,
        by_cons (has_target c) a es,
        by_cons (λ (y : Entry). not (has_target c y)) a es,
      )

  -- each edge that is drawn is new
  pub jumps_drawn : {x : ℕ} {gs hs : List Given} {es : List Entry} → Resolves c i x gs hs es → (p : GraphState) → length p.edges ≡ x → (y : ℕ)
      → jump_at (entries_drawn c es p).edges y + count_fate (drawn_as y) gs ≡ jump_at p.edges y + count_fate (drawn_as y) hs
  jumps_drawn (none _) p n y = refl
  jumps_drawn (skip _ g gs hs es w r) p n y = omega (arith, jumps_drawn r p n y, count_cons (drawn_as y) g gs, count_cons (drawn_as y) g hs)
  jumps_drawn (miss _ g gs hs es f e r) p n y =
      grind (
        arith,
        jumps_drawn r p n y,
        count_cons (drawn_as y) g gs,
        count_cons (drawn_as y) (record { kind = g.kind; block = g.block; fate = Untargeted }) hs,
        ap (λ o. jump_at (entries_drawn c es (jump_added g.block o p)).edges y) e,
      )
  jumps_drawn (draw x t g gs hs es f e r) p n y =
      let new : Edge = record { source = g.block; target = t; kind = edge.Jump } in
      grind (
        arith,
        jumps_drawn r (edge_added g.block t edge.Jump p) (omega (arith, length_push p.edges new)) y,
        count_cons (drawn_as y) g gs,
        count_cons (drawn_as y) (record { kind = g.kind; block = g.block; fate = Drawn x t }) hs,
        ap (λ o. jump_at (entries_drawn c es (jump_added g.block o p)).edges y) e,
        jump_at_push p.edges new y,
        n,
      )

  -- each edge that is drawn stands, and the others still do
  jump_stay : (b : ℕ) (o : Option ℕ) (p : GraphState) → Stay p.edges (jump_added b o p).edges
  jump_stay b None p = λ x e h. h
  jump_stay b (Some t) p = λ x e h. edge_at_more p.edges _ x e h

  drawn_stay : (es : List Entry) (p : GraphState) → Stay p.edges (entries_drawn c es p).edges
  drawn_stay [] p = λ x e h. h
  drawn_stay (a ∷ es) p =
      λ x e h. drawn_stay es (jump_added a.block (target_of a.kind c) p) x e (jump_stay a.block (target_of a.kind c) p x e h)

  pub edges_drawn : {x : ℕ} {gs hs : List Given} {es : List Entry} → Resolves c i x gs hs es → (p : GraphState) → length p.edges ≡ x
      → EdgesStand p.edges gs → EdgesStand (entries_drawn c es p).edges hs
  edges_drawn (none _) p n s = tt
  edges_drawn (skip _ g gs hs es w r) p n s = (edge_stays p.edges _ g.block g.fate (drawn_stay es p) s.0, edges_drawn r p n s.1)
  edges_drawn (miss _ g gs hs es f e r) p n s =
      (tt, subst (λ o. EdgesStand (entries_drawn c es (jump_added g.block o p)).edges hs) (sym e) (edges_drawn r p n s.1))
  edges_drawn (draw x t g gs hs es f e r) p n s =
      let q : GraphState = edge_added g.block t edge.Jump p in
      let new : Edge = record { source = g.block; target = t; kind = edge.Jump } in
      let l : length q.edges ≡ suc x = omega (arith, length_push p.edges new) in
      let here : slice_get q.edges x ≡ Some new = ap (slice_get q.edges) (sym n) ∙ edge_at_here p.edges new in
      let hs' : List Given = record { kind = g.kind; block = g.block; fate = Drawn x t } ∷ hs in
      subst (λ o. EdgesStand (entries_drawn c es (jump_added g.block o p)).edges hs') (sym e)
      (drawn_stay es q x new here, edges_drawn r q l (edges_stay p.edges q.edges gs (λ y z h. edge_at_more p.edges _ y z h) s.1))

  -- nothing waits in the context any more, and in the others what did
  pub none_waits : {x : ℕ} {gs hs : List Given} {es : List Entry} → Resolves c i x gs hs es → waiting_in i hs ≡ []
  none_waits (none _) = refl
  none_waits (skip _ g gs hs es w r) = rw w (none_waits r)
  none_waits (miss _ g gs hs es f e r) = none_waits r
  none_waits (draw _ t g gs hs es f e r) = none_waits r

  pub others_wait : {x : ℕ} {gs hs : List Given} {es : List Entry} → Resolves c i x gs hs es → (j : ℕ) → (j ≡ i → ⊥)
      → waiting_in j hs ≡ waiting_in j gs
  others_wait (none _) j q = refl
  others_wait (skip _ g gs hs es w r) j q = grind (arith, others_wait r j q)
  others_wait (miss _ g gs hs es f e r) j q = grind (arith, others_wait r j q, ne_eqb j i q)
  others_wait (draw _ t g gs hs es f e r) j q = grind (arith, others_wait r j q, ne_eqb j i q)
