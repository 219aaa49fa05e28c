-- The law of the spans.
use Rattle.std.proofs.Common.{◌≡◌, ℕ, suc, ◌<◌, ◌≢◌, ◌⊎◌, List, ◌∷◌, refl, ap, ◌∙◌, inl, inr, ⊎_elim, arith}
use Rattle.std.proofs.lemmas.Bool.{cases_eq, cases_order}
use Rattle.graph.specs.Meaning.{Sound, Meaning}
use Rattle.walk.specs.declared.event.Control.{Control}
use Rattle.walk.specs.declared.event.Control.TheVariants.{Continue, Prune, Break}
use Rattle.walk.specs.declared.event.DfsEvent.{DfsEvent}
use Rattle.walk.specs.declared.event.DfsEvent.TheVariants.{Discover, TreeEdge, BackEdge, CrossForwardEdge, Finish}
use Rattle.walk.specs.declared.mark.Mark.{Mark}
use Rattle.walk.specs.declared.mark.Mark.TheVariants.{New, Open, Done}
use Rattle.walk.specs.Marks.{mark_as}
use Rattle.walk.specs.Spans.{Discovers, Finishes, Continued, Descends, Discovered, Finished, Tree, Leads, Span}
use Rattle.walk.specs.SpansNested.{Inside, Nesting, Spans}
use Rattle.walk.specs.Walk.{Visitor, Report, State, stop_of, report, discover, finish, begin, walk}
use Rattle.walk.specs.Ways.{Way, here, on}
use Rattle.walk.proofs.Cases.{not_left}
use Rattle.walk.proofs.Induct.{Running, Stays, Laws}
use Rattle.walk.proofs.Marks.{Seen, seen_cases, mark_as_same, mark_as_other}
use Rattle.walk.proofs.Starts.{Blocks, starts_rule}
use Rattle.walk.proofs.Steady.{Steady, steady_refl, steady_trans, steady_wrap}
use Rattle.walk.proofs.Ways.{snoc, way_map}

-- The blocks whose mark passes have a number each, no two the same, and all below t.
record Numbering (passes : Mark → Type 0) (f : ℕ → Mark) (t : ℕ) (D : ℕ → ℕ → Type 0) : Type 0 where
  has : (x : ℕ) → passes (f x) → (d : ℕ) × D x d
  told : (x d : ℕ) → D x d → passes (f x) × (d < t)
  one : (x d e : ℕ) → D x d → D x e → d ≡ e
  same : (x y d : ℕ) → D x d → D y d → x ≡ y

numbering_map : {passes : Mark → Type 0} {f : ℕ → Mark} {t : ℕ} {D D' : ℕ → ℕ → Type 0} → ((x d : ℕ) → D x d → D' x d)
    → ((x d : ℕ) → D' x d → D x d) → Numbering passes f t D → Numbering passes f t D'
numbering_map to from b = record {
  has = λ x p. let h = b.has x p in (h.0, to x h.0 h.1);
  told = λ x d h. b.told x d (from x d h);
  one = λ x d e h k. b.one x d e (from x d h) (from x e k);
  same = λ x y d h k. b.same x y d (from x d h) (from y d k);
}

module _ (passes : Mark → Type 0) (u : ℕ) (m : Mark) (f : ℕ → Mark) (t : ℕ) (D : ℕ → ℕ → Type 0) (b : Numbering passes f t D) where
  -- u is marked, and passes as before
  numbering_kept : (passes (f u) → passes m) → (passes m → passes (f u)) → Numbering passes (mark_as u m f) (suc t) D
  numbering_kept to from = record {
    has = λ x p. elim (cases_eq x u) [ inl e ↦ b.has x (rw e (from (rw (e, mark_as_same u m f) at p))) | inr n ↦ b.has x (rw (mark_as_other u m f x n) at p) ];
    told =
        λ x d h. let k =
        b.told x d h in
        (elim (cases_eq x u) [ inl e ↦ rw (e, mark_as_same u m f) (to (rw e at k.0)) | inr n ↦ rw (mark_as_other u m f x n) k.0 ], omega arith);
    one = b.one;
    same = b.same;
  }

  -- u is marked, and gets the next number
  numbering_more : (passes (f u) → ⊥) → passes m → Numbering passes (mark_as u m f) (suc t) (λ x d. ((x ≡ u) × (d ≡ t)) ⊎ D x d)
  numbering_more r p = record {
    has =
        λ x q.
        elim (cases_eq x u) [
          | inl e ↦ (t, inl (e, refl))
          | inr n ↦ let h = b.has x (rw (mark_as_other u m f x n) at q) in (h.0, inr h.1)
        ];
    told = told;
    one = λ x d e h k. grind (arith, b.one x d e, fresh x d, fresh x e);
    same = λ x y d h k. grind (arith, b.same x y d, b.told x d, b.told y d);
  }
    where
      fresh : (x d : ℕ) → D x d → x ≡ u → ⊥
      fresh x d h e = r (rw e at (b.told x d h).0)

      told : (x d : ℕ) → ((x ≡ u) × (d ≡ t)) ⊎ D x d → passes (mark_as u m f x) × (d < suc t)
      told x d (inl e) = (rw (e.0, mark_as_same u m f) p, omega arith)
      told x d (inr h) = let k = b.told x d h in (rw (mark_as_other u m f x (fresh x d h)) k.0, omega arith)

module _ {S B : Type 0} (V : Visitor S B) (G : Meaning) where
  abbrev said : DfsEvent → State S B → Report B
  said e s = record { event = e; reply = V.reply s.visitor e }

  -- marks and numbers agree
  record Base (s : State S B) : Type 0 where
    disc : Numbering Seen s.mark s.time (Discovered s.log)
    fin : Numbering (λ m. m ≡ Done) s.mark s.time (Finished s.log)
    after : (x d f : ℕ) → Discovered s.log x d → Finished s.log x f → d < f

  -- the event gives no number
  abbrev Quiet : DfsEvent → Type 0
  Quiet e = (x d : ℕ) → (Discovers x d e → ⊥) × (Finishes x d e → ⊥)

  base_edge : (e : DfsEvent) (s : State S B) → Quiet e → Base s → Base (report V e s)
  base_edge e s q b = record {
    disc = numbering_map (λ x d h. inr h) (λ x d h. not_left (q x d).0 h) b.disc;
    fin = numbering_map (λ x d h. inr h) (λ x d h. not_left (q x d).1 h) b.fin;
    after = λ x d f h k. b.after x d f (not_left (q x d).0 h) (not_left (q x f).1 k);
  }

  base_open : (u : ℕ) (s : State S B) → s.mark u ≡ New → Base s → Base (discover V u s)
  base_open u s m b = record {
    disc = numbering_more Seen u Open s.mark s.time (Discovered s.log) b.disc (λ p. rw m at p) tt;
    fin =
        numbering_map (λ x d h. inr h) (λ x d h. not_left (λ z. z) h)
        (numbering_kept (λ m. m ≡ Done) u Open s.mark s.time (Finished s.log) b.fin (λ p. cc) (λ p. absurd cc));
    after = λ x d f h k. grind (arith, b.after x d f, b.fin.told x f);
  }

  base_close : (u : ℕ) (s : State S B) → s.mark u ≡ Open → Base s → Base (finish V u s)
  base_close u s m b = record {
    disc =
        numbering_map (λ x d h. inr h) (λ x d h. not_left (λ z. z) h)
        (numbering_kept Seen u Done s.mark s.time (Discovered s.log) b.disc (λ p. tt) (λ p. rw m tt));
    fin = numbering_more (λ m. m ≡ Done) u Done s.mark s.time (Finished s.log) b.fin (λ p. cc) refl;
    after = λ x d f h k. grind (arith, b.after x d f, b.disc.told x d);
  }

  ended : (s : State S B) → Base s → (x : ℕ) → s.mark x ≡ Done → (f : ℕ) × Finished s.log x f × (f < s.time)
  ended s b x e = let h = b.fin.has x e in (h.0, h.1, (b.fin.told x h.0 h.1).1)

  abbrev EndsIn : List (Report B) → ℕ → ℕ → Type 0
  EndsIn l a b = (f : ℕ) → Finished l a f → (g : ℕ) × Finished l b g × (g < f)

  record Edge (l : List (Report B)) (a b : ℕ) : Type 0 where
    d : ℕ
    e : ℕ
    disc_a : Discovered l a d
    disc_b : Discovered l b e
    down : d < e
    ends : EndsIn l a b

  edge_more : (h : Report B) (l : List (Report B)) (a b : ℕ) → Edge l a b
      → ((f : ℕ) → Finishes a f h.event → (g : ℕ) × Finished l b g × (g < f)) → Edge (h ∷ l) a b
  edge_more h l a b g e = record {
    d = g.d;
    e = g.e;
    disc_a = inr g.disc_a;
    disc_b = inr g.disc_b;
    down = g.down;
    ends = λ f k. let p : (n : ℕ) × Finished l b n × (n < f) = ⊎_elim (e f) (g.ends f) k in (p.0, inr p.1, p.2);
  }

  -- x is finished below e, or leads to y
  abbrev Apart : List (Report B) → ℕ → ℕ → ℕ → Type 0
  Apart l x y e = ((f : ℕ) × Finished l x f × (f < e)) ⊎ Leads l x y

  apart_more : (h : Report B) (l : List (Report B)) (x y e : ℕ) → Apart l x y e → Apart (h ∷ l) x y e
  apart_more h l x y e (inl p) = inl (p.0, inr p.1, p.2)
  apart_more h l x y e (inr w) = inr (w.0, way_map (λ a b t. inr t) w.1)

  abbrev Pairs : List (Report B) → Type 0
  Pairs l = (x y d e : ℕ) → Discovered l x d → Discovered l y e → d < e → Apart l x y e

  pairs_more : (h : Report B) (l : List (Report B)) → ((x d : ℕ) → Discovers x d h.event → ⊥) → Pairs l → Pairs (h ∷ l)
  pairs_more r l q p x y d e h k z = apart_more r l x y e (p x y d e (not_left (q x d) h) (not_left (q y e) k) z)

  record Inv (s : State S B) : Type 0 where
    base : Base s
    edge : (a b : ℕ) → Tree s.log a b → Edge s.log a b
    pair : Pairs s.log

  -- u is open, and what else is open lies above it
  abbrev Top : ℕ → State S B → Type 0
  Top u s = (s.mark u ≡ Open) × ((x : ℕ) → s.mark x ≡ Open → (x ≡ u) ⊎ Leads s.log x u)

  abbrev Ext : List (Report B) → List (Report B) → Type 0
  Ext l l' = (a b : ℕ) → Tree l a b → Tree l' a b

  -- down a way of tree edges the discovery numbers go up, and the finish numbers down
  under : (s : State S B) → Inv s → {x k y : ℕ} → Way (Tree s.log) x (suc k) y → (d e : ℕ) → Discovered s.log x d → Discovered s.log y e
      → (d < e) × EndsIn s.log x y
  under s i (on {u = x} {v = y} t here) d e h j =
      let a = i.edge x y t in
      let z = i.base.disc.one x d a.d h a.disc_a in
      let z' = i.base.disc.one y e a.e j a.disc_b in
      (let l = a.down in omega arith, a.ends)
  under s i (on {u = x} {v = y} t (on t' w)) d e h j =
      let a = i.edge x y t in
      let z = i.base.disc.one x d a.d h a.disc_a in
      let r = under s i (on t' w) a.e e a.disc_b j in
      (let l = a.down in omega arith, λ f k. let p = a.ends f k in let q = r.1 p.0 p.1 in (q.0, q.1, omega arith))

  -- an event that gives no number, and is no unpruned tree edge
  inv_quiet : (e : DfsEvent) (s : State S B) → Quiet e → ((a b : ℕ) → Descends a b e (V.reply s.visitor e) → ⊥) → Inv s → Inv (report V e s)
  inv_quiet e s q t i = record {
    base = base_edge e s q i.base;
    edge = λ a b k. edge_more _ s.log a b (i.edge a b (not_left (t a b) k)) (λ f p. absurd ((q a f).1 p));
    pair = pairs_more (said e s) s.log (λ x d. (q x d).0) i.pair;
  }

  -- u is opened, where what was seen is finished or leads to u
  inv_open : (u : ℕ) (s : State S B) → s.mark u ≡ New → Base s → ((a b : ℕ) → Tree s.log a b → Edge (discover V u s).log a b) → Pairs s.log
      → ((x : ℕ) → Seen (s.mark x) → Apart s.log x u s.time) → Inv (discover V u s)
  inv_open u s m b edges pairs seen = record { base = base_open u s m b; edge = λ a b t. edges a b (not_left (λ z. z) t); pair = two }
    where
      two : Pairs (discover V u s).log
      two x y d e (inl p) (inl q) l = absurd (omega arith)
      two x y d e (inl p) (inr k) l = absurd (let z = b.disc.told y e k in omega arith)
      two x y d e (inr h) (inl q) l = apart_more (said (Discover u s.time) s) s.log x y e (rw (q.0, q.1) (seen x (b.disc.told x d h).0))
      two x y d e (inr h) (inr k) l = apart_more (said (Discover u s.time) s) s.log x y e (pairs x y d e h k l)

  -- a start is opened, where nothing is open
  inv_root : (u : ℕ) (s : State S B) → s.mark u ≡ New → ((x : ℕ) → s.mark x ≡ Open → ⊥) → Inv s → Inv (discover V u s) × Top u (discover V u s)
  inv_root u s m c i = (
    inv_open u s m i.base (λ a b t. edge_more _ s.log a b (i.edge a b t) (λ f p. absurd p)) i.pair
        (λ x t. elim (seen_cases (s.mark x) t) [ inl p ↦ absurd (c x p) | inr p ↦ inl (ended s i.base x p) ]),
    (mark_as_same u Open s.mark, λ x o. elim (cases_eq x u) [ inl e ↦ inl e | inr n ↦ absurd (c x (rw (mark_as_other u Open s.mark x n) at o)) ]),
  )

  -- a neighbour of the top is opened
  inv_child : (u v : ℕ) (s : State S B) → s.mark v ≡ New → V.reply s.visitor (TreeEdge u v) ≡ Continue → Inv s → Top u s
      → Inv (discover V v (report V (TreeEdge u v) s)) × Top v (discover V v (report V (TreeEdge u v) s))
  inv_child u v s m c i o = (
    inv_open v s₁ m (base_edge (TreeEdge u v) s (λ x d. (λ z. z, λ z. z)) i.base) edges (pairs_more (said (TreeEdge u v) s) s.log (λ x d z. z) i.pair)
        (λ x t.
        elim (seen_cases (s.mark x) t) [
          | inl p ↦ inr (leads x (o.1 x p))
          | inr p ↦ let h = ended s i.base x p in inl (h.0, inr h.1, h.2)
        ]),
    (
      mark_as_same v Open s.mark,
      λ x p.
          elim (cases_eq x v) [
            | inl e ↦ inl e
            | inr n ↦ let w = leads x (o.1 x (rw (mark_as_other v Open s.mark x n) at p)) in inr (w.0, way_map (λ a b t. inr t) w.1)
          ],
    ),
  )
    where
      s₁ : State S B
      s₁ = report V (TreeEdge u v) s

      new : Tree s₁.log u v
      new = inl (refl, refl, rw c tt)

      leads : (x : ℕ) → (x ≡ u) ⊎ Leads s.log x u → Leads s₁.log x v
      leads x (inl e) = (0, rw e (on new here))
      leads x (inr w) = (suc w.0, snoc (way_map (λ a b t. inr t) w.1) new)

      edges : (a b : ℕ) → ((a ≡ u) × (b ≡ v) × Continued (V.reply s.visitor (TreeEdge u v))) ⊎ Tree s.log a b → Edge (discover V v s₁).log a b
      edges a b (inl p) =
          let h = i.base.disc.has u (rw o.0 tt) in
          record {
            d = h.0;
            e = s.time;
            disc_a = inr (inr (rw p.0 h.1));
            disc_b = inl (p.1, refl);
            down = (i.base.disc.told u h.0 h.1).1;
            ends =
                λ f k.
                absurd
                (let z = (i.base.fin.told a f (not_left (λ z. z) (not_left (λ z. z) k))).0 in let y = o.0 in let w = ap s.mark p.0 in cc);
          }
      edges a b (inr t) = edge_more _ s₁.log a b (edge_more _ s.log a b (i.edge a b t) (λ f p. absurd p)) (λ f p. absurd p)

  -- the top is closed
  inv_close : (u : ℕ) (s : State S B) → Inv s → Top u s → Inv (finish V u s)
  inv_close u s i o = record {
    base = base_close u s o.0 i.base;
    edge = λ a b t. let g = i.edge a b (not_left (λ z. z) t) in edge_more _ s.log a b g (ending a b g);
    pair = pairs_more (said (Finish u s.time) s) s.log (λ x d z. z) i.pair;
  }
    where
      -- below the top all is done
      done_below : (b d e : ℕ) → Discovered s.log u d → Discovered s.log b e → d < e → s.mark b ≡ Done
      done_below b d e h j l = elim (seen_cases (s.mark b) (i.base.disc.told b e j).0) [
        | inl p ↦ absurd (by (o.1 b p))
        | inr p ↦ p
      ]
        where
          by : (b ≡ u) ⊎ Leads s.log b u → ⊥
          by (inl q) = let z = i.base.disc.one u d e h (rw (← q) j) in omega arith
          by (inr w) = let z = under s i w.1 e d j h in omega arith

      ending : (a b : ℕ) → Edge s.log a b → (f : ℕ) → (a ≡ u) × (f ≡ s.time) → (g : ℕ) × Finished s.log b g × (g < f)
      ending a b g f p =
          let h = ended s i.base b (done_below b g.d g.e (rw (← p.0) g.disc_a) g.disc_b g.down) in
          (h.0, h.1, let l = h.2 in omega arith)

  abbrev Keeps : State S B → State S B → Type 0
  Keeps s s' = Inv s' × (Running V G s' → Steady s.mark s'.mark × Ext s.log s'.log)

  abbrev P : ℕ → State S B → State S B → Type 0
  P u s s' = Inv (discover V u s) → Top u (discover V u s) → Keeps s s'

  abbrev E : ℕ → ℕ → State S B → State S B → Type 0
  E u v s s' = Inv s → Top u s → Keeps s s'

  abbrev Q : ℕ → List ℕ → State S B → State S B → Type 0
  Q u vs s s' = Inv s → Top u s → Keeps s s'

  was_open : (a b : Mark) → (Seen a → b ≡ a) × (a ≡ New → b ≡ Open → ⊥) → b ≡ Open → a ≡ Open
  was_open a b x o = grind arith

  -- the top stays the top
  top_on : (u : ℕ) (s s' : State S B) → Top u s → Steady s.mark s'.mark → Ext s.log s'.log → Top u s'
  top_on u s s' o f e = (
    (f u).0 (rw o.0 tt) ∙ o.0,
    λ x p.
        elim (o.1 x (was_open (s.mark x) (s'.mark x) (f x) p)) [ inl q ↦ inl q | inr w ↦ inr (w.0, way_map e w.1) ],
  )

  stays_not : (u v : ℕ) (c : Control B) → Stays V G c → (a b : ℕ) → Descends a b (TreeEdge u v) c → ⊥
  stays_not u v Continue t a b h = t
  stays_not u v Prune t a b h = h.2
  stays_not u v (Break x) t a b h = h.2

  closing : (u : ℕ) (s s' : State S B) → s.mark u ≡ New → Inv s' → Top u s' → Steady (discover V u s).mark s'.mark
      → Ext (discover V u s).log s'.log → Keeps s (finish V u s')
  closing u s s' m i o f e = (inv_close u s' i o, λ _. (steady_wrap u s.mark s'.mark m f, λ a b t. inr (e a b (inr t))))

  -- an edge event that opens nothing
  passing : (e : DfsEvent) (s : State S B) → Quiet e → ((a b : ℕ) → Descends a b e (V.reply s.visitor e) → ⊥) → Inv s → Keeps s (report V e s)
  passing e s q t i = (inv_quiet e s q t i, λ _. (steady_refl s.mark, λ a b h. inr h))

  span_laws : Laws V G P E Q
  span_laws = record {
    open_halt = λ u s r m l b e i o. (i, λ z. absurd (let y = ap stop_of e in cc));
    open_prune = λ u s r m l e i o. closing u s (discover V u s) m i o (steady_refl (discover V u s).mark) (λ a b t. t);
    open_stop = λ u s r m l e s' q b h i o. ((q i o).0, λ z. absurd cc);
    open_go =
        λ u s r m l e s' q z i o. let k =
        q i o in let j = k.1 z in closing u s s' m k.0 (top_on u (discover V u s) s' o j.0 j.1) j.0 j.1;
    tree_stay = λ u v s r j m t i o. passing (TreeEdge u v) s (λ x d. (λ z. z, λ z. z)) (stays_not u v (V.reply s.visitor (TreeEdge u v)) t) i;
    tree_go =
        λ u v s r j m c s' p i o. let n =
        inv_child u v s m c i o in let k = p n.0 n.1 in (k.0, λ z. let x = k.1 z in (x.0, λ a b h. x.1 a b (inr h)));
    back = λ u v s r j m i o. passing (BackEdge u v) s (λ x d. (λ z. z, λ z. z)) (λ a b h. h) i;
    cross = λ u v s r j m i o. passing (CrossForwardEdge u v) s (λ x d. (λ z. z, λ z. z)) (λ a b h. h) i;
    nil = λ u s r i o. (i, λ _. (steady_refl s.mark, λ a b h. h));
    cons =
        λ u v vs s s₁ s₂ r e r₁ q i o. let k =
        e i o in let j = k.1 r₁ in let n = q k.0 (top_on u s s₁ o j.0 j.1) in
        (n.0, λ z. let x = n.1 z in (steady_trans s.mark s₁.mark s₂.mark j.0 x.0, λ a b h. x.1 a b (j.1 a b h)));
    halt = λ u v vs s s₁ r e b h i o. ((e i o).0, λ z. absurd cc);
  }

  abbrev Between : State S B → Type 0
  Between s = Inv s × (Running V G s → (x : ℕ) → s.mark x ≡ Open → ⊥)

  inv_begin : (x : S) → Inv (begin V x)
  inv_begin x = record {
    base =
        record {
          disc = record { has = λ y t. absurd t; told = λ y d h. absurd h; one = λ y d e h k. absurd h; same = λ y z d h k. absurd h };
          fin = record { has = λ y e. absurd cc; told = λ y f h. absurd h; one = λ y f g h k. absurd h; same = λ y z d h k. absurd h };
          after = λ y d f h k. absurd h;
        };
    edge = λ a b t. absurd t;
    pair = λ y z d e h k l. absurd h;
  }

  between : Sound G → (us : List ℕ) (x : S) → Blocks G us → Between (walk V G us x)
  between W us x b =
      starts_rule V G P E Q span_laws W Between
      (λ u s s' r m l i p.
      let n = inv_root u s m (i.1 r) i.0 in
      let k = p n.0 n.1 in
      (k.0, λ z y o. i.1 r y (was_open (s.mark y) (s'.mark y) ((k.1 z).0 y) o))) us (begin V x) b
      (inv_begin x, λ _ y o. cc)

  -- a way of tree edges leads inside
  inside : (s : State S B) → Inv s → (x d f y e g : ℕ) → Span s.log x d f → Span s.log y e g → Leads s.log x y → Inside d f e g
  inside s i x d f y e g p q w =
      let u = under s i w.1 d e p.from q.from in
      let h = u.1 f p.upto in
      let z = i.base.fin.one y g h.0 q.upto h.1 in
      (u.0, let l = h.2 in omega arith)

  -- of two spans the one that begins first has the other inside, or ends before it
  first : (s : State S B) → Inv s → (x d f y e g : ℕ) → Span s.log x d f → Span s.log y e g → d < e → Inside d f e g ⊎ (f < e)
  first s i x d f y e g p q l = elim (i.pair x y d e p.from q.from l) [
    | inl k ↦ let z = i.base.fin.one x f k.0 p.upto k.1 in let b = k.2 in inr (omega arith)
    | inr w ↦ inl (inside s i x d f y e g p q w)
  ]

  nests : (s : State S B) → Inv s → (x d f y e g : ℕ) → Span s.log x d f → Span s.log y e g → x ≢ y → Nesting s.log x d f y e g
  nests s i x d f y e g p q n = record {
    nested_or_apart =
        elim (cases_order d e) [
          | inl z ↦ absurd (n (i.base.disc.same x y d p.from (rw z q.from)))
          | inr (inl l) ↦ elim (first s i x d f y e g p q l) [ inl a ↦ inl a | inr a ↦ inr (inr (inl a)) ]
          | inr (inr l) ↦ elim (first s i y e g x d f q p l) [ inl a ↦ inr (inl a) | inr a ↦ inr (inr (inr a)) ]
        ];
    inside = (
      λ h.
          elim (i.pair x y d e p.from q.from h.0) [
            | inl k ↦
                absurd
                (let z = i.base.fin.one x f k.0 p.upto k.1 in let a = i.base.after y e g q.from q.upto in let b = k.2 in let c = h.1 in omega arith)
            | inr w ↦ w
          ],
      inside s i x d f y e g p q,
    );
  }

  spans_of : (s : State S B) → Between s → Spans s.log s.stop
  spans_of s b = record {
    forward = λ x d f p. b.0.base.after x d f p.from p.upto;
    one = λ x d f e g p q. (b.0.base.disc.one x d e p.from q.from, b.0.base.fin.one x f g p.upto q.upto);
    whole =
        λ r x d h.
        elim (seen_cases (s.mark x) (b.0.base.disc.told x d h).0) [
          | inl e ↦ absurd (b.1 r x e)
          | inr e ↦ let k = b.0.base.fin.has x e in (k.0, record { from = h; upto = k.1 })
        ];
    nesting = nests s b.0;
  }

pub spans_law : {S B : Type 0} (V : Visitor S B) (G : Meaning) (us : List ℕ) (x : S) → Sound G → Blocks G us
    → Spans (walk V G us x).log (walk V G us x).stop
spans_law V G us x W b = spans_of V G (walk V G us x) (between V G W us x b)
