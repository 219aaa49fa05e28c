-- Two rules drawn from the induction: one for the starts, and one for a relation that holds across every part of a walk.
use Rattle.std.proofs.Common.{◌≡◌, ℕ, ◌<◌, List, [], ◌∷◌, Some, None, Option, refl, ap, inl, inr}
use Rattle.graph.specs.Meaning.{Sound, Member, Meaning}
use Rattle.walk.specs.declared.event.DfsEvent.TheVariants.{TreeEdge}
use Rattle.walk.specs.declared.mark.Mark.{Mark}
use Rattle.walk.specs.declared.mark.Mark.TheVariants.{New, Open, Done}
use Rattle.walk.specs.Walk.{Visitor, State, stop_of, report, discover, finish, opening, starts, begin, walk, unless_ended, start_marked}
use Rattle.walk.proofs.Cases.{event_of}
use Rattle.walk.proofs.Induct.{Running, Laws, open_law}
use Rattle.walk.proofs.Marks.{unseen_most}

-- all of us are blocks
abbrev pub Blocks : Meaning → List ℕ → Type 0
Blocks G us = (u : ℕ) → Member u us → u < G.size

module _ {S B : Type 0} (V : Visitor S B) (G : Meaning) where
  -- what each opening of a start keeps, the starts keep
  module _ (P : ℕ → State S B → State S B → Type 0) (E : ℕ → ℕ → State S B → State S B → Type 0) (Q : ℕ → List ℕ → State S B → State S B → Type 0)
      (L : Laws V G P E Q) (W : Sound G) (I : State S B → Type 0)
      (one : (u : ℕ) (s s' : State S B) → Running V G s → s.mark u ≡ New → u < G.size → I s → P u s s' → I s') where
    pub starts_rule : (us : List ℕ) (s : State S B) → Blocks G us → I s → I (starts V G G.size us s)
    unfolding starts
    starts_rule [] s b i = i
    starts_rule (u ∷ us) s b i =
        starts_rule us (unless_ended s.stop s (start_marked V G G.size u (s.mark u) s)) (λ w j. b w (inr j))
        (by s.stop refl (s.mark u) refl)
      where
        by : (o : Option B) → s.stop ≡ o → (m : Mark) → s.mark u ≡ m → I (unless_ended o s (start_marked V G G.size u m s))
        by None e New m =
            one u s (opening V G G.size u s) e m (b u (inl refl)) i
            (open_law V G P E Q L W G.size u s e m (b u (inl refl)) (unseen_most s.mark G.size)).0
        by None e Open m = i
        by None e Done m = i
        by (Some x) e m d = i

  -- a relation between where a part of a walk begins and where it ends
  pub record Across (R : State S B → State S B → Type 0) : Type 0 where
    pub still : (s : State S B) → R s s
    pub join : (s s₁ s₂ : State S B) → R s s₁ → Running V G s₁ → R s₁ s₂ → R s s₂
    pub edge : (m : Mark) (u v : ℕ) (s : State S B) → Running V G s → R s (report V (event_of m u v) s)
    pub ended : (u : ℕ) (s s' : State S B) → Running V G s → s.mark u ≡ New → R (discover V u s) s' → (b : B) → s'.stop ≡ Some b → R s s'
    pub wrapped : (u : ℕ) (s s' : State S B) → Running V G s → s.mark u ≡ New → R (discover V u s) s' → Running V G s' → R s (finish V u s')

  module _ (R : State S B → State S B → Type 0) (A : Across R) where
    pub across_laws : Laws V G (λ u. R) (λ u v. R) (λ u vs. R)
    across_laws = record {
      open_halt = λ u s r m l b e. A.ended u s (discover V u s) r m (A.still (discover V u s)) b (ap stop_of e);
      open_prune = λ u s r m l e. A.wrapped u s (discover V u s) r m (A.still (discover V u s)) (ap stop_of e);
      open_stop = λ u s r m l e s' q b h. A.ended u s s' r m q b h;
      open_go = λ u s r m l e s' q h. A.wrapped u s s' r m q h;
      tree_stay = λ u v s r i m t. A.edge New u v s r;
      tree_go = λ u v s r i m e s' p. A.join s (report V (TreeEdge u v) s) s' (A.edge New u v s r) (ap stop_of e) p;
      back = λ u v s r i m. A.edge Open u v s r;
      cross = λ u v s r i m. A.edge Done u v s r;
      nil = λ u s r. A.still s;
      cons = λ u v vs s s₁ s₂ r e r₁ q. A.join s s₁ s₂ e r₁ q;
      halt = λ u v vs s s₁ r e b h. e;
    }

    pub across : Sound G → (us : List ℕ) (x : S) → Blocks G us → R (begin V x) (walk V G us x)
    across W us x b =
        starts_rule (λ u. R) (λ u v. R) (λ u vs. R) across_laws W (R (begin V x)) (λ u s s' r m l i p. A.join (begin V x) s s' i r p) us
        (begin V x) b (A.still (begin V x))
