-- A search: a walk whose visitor keeps to some steps and breaks at a target. It breaks exactly when such steps lead to the target.
use Rattle.std.proofs.Common.{◌≡◌, ℕ, zero, suc, ◌<◌, ◌≤◌, ◌≢◌, List, [], ◌∷◌, Some, None, Option, sym, refl, ap, ◌∙◌, subst, inl, inr, arith}
use Rattle.std.proofs.lemmas.Bool.{cases_eq}
use Rattle.graph.specs.Meaning.{Sound, Member, Meaning}
use Rattle.walk.specs.declared.event.Control.{Control}
use Rattle.walk.specs.declared.event.Control.TheVariants.{Continue, Break}
use Rattle.walk.specs.declared.event.DfsEvent.{DfsEvent}
use Rattle.walk.specs.declared.event.DfsEvent.TheVariants.{Discover, TreeEdge, Finish}
use Rattle.walk.specs.declared.mark.Mark.{Mark}
use Rattle.walk.specs.declared.mark.Mark.TheVariants.{New, Open, Done}
use Rattle.walk.specs.Marks.{mark_as}
use Rattle.walk.specs.Walk.{Visitor, State, stop_of, report, stamp, discover, finish, close, scan, opening, starts, begin, walk, if_continue, unless_ended}
use Rattle.walk.specs.Ways.{Way, here, on}
use Rattle.walk.proofs.Cases.{event_of}
use Rattle.walk.proofs.Induct.{Running, Laws, scan_law, open_law}
use Rattle.walk.proofs.Marks.{Seen, seen_cases, mark_as_same, mark_as_other, grow_mark_as, unseen_mark_as, unseen_most}
use Rattle.walk.proofs.Steady.{Steady, steady_refl, steady_trans, steady_wrap}
use Rattle.walk.proofs.Ways.{snoc}

module _ {S B : Type 0} (V : Visitor S B) (G : Meaning) (ok : ℕ → ℕ → Type 0) (source to : ℕ) (m₀ : Mark) (Good : S → Type 0)
    (Right : B → Type 0) where
  -- The visitor keeps to the steps that `ok` has, and breaks at an edge to the target, which it meets marked m₀.
  pub record Seeks : Type 0 where
    pub keep : (x : S) (e : DfsEvent) → Good x → Good (V.next x e)
    pub at_block : (x : S) (u t : ℕ) → Good x → V.reply x (Discover u t) ≡ Continue
    pub at_finish : (x : S) (u t : ℕ) → Good x → V.reply x (Finish u t) ≡ Continue
    pub hit : (x : S) (u : ℕ) → Good x → ok u to → (b : B) × (V.reply x (event_of m₀ u to) ≡ Break b)
    pub found : (x : S) (m : Mark) (u v : ℕ) → Good x → (b : B) → V.reply x (event_of m u v) ≡ Break b → ok u v × (v ≡ to) × Right b
    pub go : (x : S) (u v : ℕ) → Good x → ok u v → v ≢ to → V.reply x (TreeEdge u v) ≡ Continue
    pub may : (x : S) (u v : ℕ) → Good x → V.reply x (TreeEdge u v) ≡ Continue → ok u v

  abbrev pub Step : ℕ → ℕ → Type 0
  Step u v = Member v (G.neighbors u) × ok u v

  abbrev pub Reached : ℕ → Type 0
  Reached w = (k : ℕ) × Way Step source k w

  abbrev pub Hit : Type 0
  Hit = (k : ℕ) × Way Step source (suc k) to

  abbrev pub Settled : (ℕ → Mark) → ℕ → ℕ → Type 0
  Settled f u v = ok u v → Seen (f v) × (v ≢ to)

  pub record Known (s : State S B) : Type 0 where
    pub good : Good s.visitor
    pub reached : (w : ℕ) → Seen (s.mark w) → Reached w
    pub target : s.mark to ≡ m₀
    pub settled : (w : ℕ) → s.mark w ≡ Done → (v : ℕ) → Member v (G.neighbors w) → Settled s.mark w v

  abbrev pub P : ℕ → State S B → State S B → Type 0
  P u s s' =
      u ≢ to → Known s → Reached u → (Running V G s' → Known s' × Steady s.mark s'.mark × (s'.mark u ≡ Done)) ×
      ((b : B) → s'.stop ≡ Some b → Right b × Hit)

  abbrev pub E : ℕ → ℕ → State S B → State S B → Type 0
  E u v s s' =
      Known s → s.mark u ≡ Open → Reached u → (Running V G s' → Known s' × Steady s.mark s'.mark × Settled s'.mark u v) ×
      ((b : B) → s'.stop ≡ Some b → Right b × Hit)

  abbrev pub Q : ℕ → List ℕ → State S B → State S B → Type 0
  Q u vs s s' =
      Known s → s.mark u ≡ Open → Reached u →
      (Running V G s' → Known s' × Steady s.mark s'.mark × ((v : ℕ) → Member v vs → Settled s'.mark u v)) ×
      ((b : B) → s'.stop ≡ Some b → Right b × Hit)

  module _ (K : Seeks) where
    -- an event that changes no mark
    known_report : (e : DfsEvent) (s : State S B) → Known s → Known (report V e s)
    known_report e s k = record { good = K.keep s.visitor e k.good; reached = k.reached; target = k.target; settled = k.settled }

    -- a block that is reached is marked: as done, if its list is settled
    known_stamp : (u : ℕ) (m : Mark) (s : State S B) → Seen m → Good s.visitor → ((w : ℕ) → Seen (s.mark w) → Reached w)
        → ((w : ℕ) → s.mark w ≡ Done → (v : ℕ) → Member v (G.neighbors w) → Settled s.mark w v) → mark_as u m s.mark to ≡ m₀ → Reached u
        → (m ≡ Done → (v : ℕ) → Member v (G.neighbors u) → Settled s.mark u v) → Known (stamp V u m s)
    known_stamp u m s t good reached settled target w all = record {
      good = good;
      reached = λ x p. elim (cases_eq x u) [ inl e ↦ rw e w | inr n ↦ reached x (rw (mark_as_other u m s.mark x n) at p) ];
      target = target;
      settled =
          λ x p v i o. let a : Seen (s.mark v) × (v ≢ to) =
          elim (cases_eq x u) [
            | inl e ↦ all (sym (mark_as_same u m s.mark) ∙ ap (mark_as u m s.mark) (sym e) ∙ p) v (rw (← e) i) (rw (← e) o)
            | inr n ↦ settled x (rw (mark_as_other u m s.mark x n) at p) v i o
          ] in (grow_mark_as u m s.mark t v a.0, a.1);
    }

    -- a new block other than the target is opened
    known_open : (u : ℕ) (s : State S B) → u ≢ to → Known s → Reached u → Known (discover V u s)
    known_open u s d k w =
        known_report (Discover u s.time) (stamp V u Open s)
        (known_stamp u Open s tt k.good k.reached k.settled (mark_as_other u Open s.mark to (λ e. d (sym e)) ∙ k.target) w (λ e. absurd cc))

    -- the target is met marked m₀, so an edge to it ends the walk
    not_target : (u v : ℕ) (s : State S B) (m : Mark) → Known s → s.mark v ≡ m → ok u v → stop_of (V.reply s.visitor (event_of m u v)) ≡ None
        → v ≢ to
    not_target u v s m k e o r d =
        let c = K.hit s.visitor u k.good (rw (← d) o) in
        let q : m ≡ m₀ = sym e ∙ ap s.mark d ∙ k.target in
        let met : V.reply s.visitor (event_of m u v) ≡ Break c.0 = rw (q, d) c.1 in
        let z = ap stop_of met in
        cc

    break_of : (c : Control B) (b : B) → stop_of c ≡ Some b → c ≡ Break b
    break_of c b h = grind arith

    -- an edge event that opens nothing: where it breaks it has met the target
    passed : (m : Mark) (u v : ℕ) (s : State S B) → Known s → Member v (G.neighbors u) → s.mark v ≡ m → Reached u
        → (ok u v → v ≢ to → Seen (s.mark v))
        → (Running V G (report V (event_of m u v) s) → Known (report V (event_of m u v) s) × Steady s.mark s.mark × Settled s.mark u v)
        × ((b : B) → stop_of (V.reply s.visitor (event_of m u v)) ≡ Some b → Right b × Hit)
    passed m u v s k i e w seen = (
      λ r. (known_report (event_of m u v) s k, steady_refl s.mark, λ o. let d = not_target u v s m k e o r in (seen o d, d)),
      λ b h.
          let f = K.found s.visitor m u v k.good b (break_of (V.reply s.visitor (event_of m u v)) b h) in
          (f.2, (w.0, rw (← f.1) (snoc w.1 (i, f.0)))),
    )

    pub laws : Laws V G P E Q
    laws = record {
      open_halt = λ u s r m l b e d k w. absurd (let z = K.at_block s.visitor u s.time k.good in cc);
      open_prune = λ u s r m l e d k w. absurd (let z = K.at_block s.visitor u s.time k.good in cc);
      open_stop = λ u s r m l e s' q b h d k w. (λ r'. absurd cc, (q (known_open u s d k w) (mark_as_same u Open s.mark) w).1);
      open_go =
          λ u s r m l e s' q r' d k w. let y =
          (q (known_open u s d k w) (mark_as_same u Open s.mark) w).0 r' in (
            λ _. (
              known_report (Finish u s'.time) (stamp V u Done s')
                  (known_stamp u Done s' tt y.0.good y.0.reached y.0.settled (mark_as_other u Done s'.mark to (λ z. d (sym z)) ∙ y.0.target) w (λ _. y.2)),
              steady_wrap u s.mark s'.mark m y.1,
              mark_as_same u Done s'.mark,
            ),
            λ b h. absurd (let z = ap stop_of (K.at_finish s'.visitor u s'.time y.0.good) in cc),
          );
      tree_stay = λ u v s r i m t k o w. passed New u v s k i m w (λ a d. absurd (rw (K.go s.visitor u v k.good a d) at t));
      tree_go =
          λ u v s r i m c s' p k o w. let a =
          K.may s.visitor u v k.good c in
          let d = not_target u v s New k m a (ap stop_of c) in
          let x = p d (known_report (TreeEdge u v) s k) (suc w.0, snoc w.1 (i, a)) in
          (λ r'. let y = x.0 r' in (y.0, y.1, λ _. (rw y.2 tt, d)), x.1);
      back = λ u v s r i m k o w. passed Open u v s k i m w (λ a d. rw m tt);
      cross = λ u v s r i m k o w. passed Done u v s k i m w (λ a d. rw m tt);
      nil = λ u s r k o w. (λ _. (k, steady_refl s.mark, λ v i. absurd i), λ b h. absurd cc);
      cons =
          λ u v vs s s₁ s₂ r e r₁ q k o w. let a =
          (e k o w).0 r₁ in
          let x = q a.0 ((a.1 u).0 (rw o tt) ∙ o) w in (
            λ r₂. let y =
                x.0 r₂ in (
                  y.0,
                  steady_trans s.mark s₁.mark s₂.mark a.1 y.1,
                  λ z j.
                      elim j [ inl d ↦ rw d (λ c. let h = a.2 c in (rw ((y.1 v).0 h.0) h.0, h.1)) | inr n ↦ y.2 z n ],
                ),
            x.1,
          );
      halt = λ u v vs s s₁ r e b h k o w. (λ r₁. absurd cc, (e k o w).1);
    }

    -- everything seen leads only to what is seen and is not the target
    no_hit : (f : ℕ → Mark) → ((x : ℕ) → Seen (f x) → (v : ℕ) → Member v (G.neighbors x) → Settled f x v) → {x k z : ℕ} → Way Step x (suc k) z
        → Seen (f x) → z ≢ to
    no_hit f a (on {u = x} {v = y} e here) t = (a x t y e.0 e.1).1
    no_hit f a (on {u = x} {v = y} e (on e' w)) t = no_hit f a (on e' w) (a x t y e.0 e.1).0

    -- what is seen when the list of the source has been read: the source, open, and what is done
    all_settled : (s : State S B) → Known s → Steady (mark_as source Open (λ w. New)) s.mark
        → ((v : ℕ) → Member v (G.neighbors source) → Settled s.mark source v) → (x : ℕ) → Seen (s.mark x) → (v : ℕ) → Member v (G.neighbors x)
        → Settled s.mark x v
    all_settled s k r q x t v i = elim (seen_cases (s.mark x) t) [
      | inl e ↦ elim (cases_eq x source) [
        | inl d ↦ rw d (q v (rw (← d) i))
        | inr d ↦ absurd ((r x).1 (mark_as_other source Open (λ w. New) x d) e)
      ]
      | inr e ↦ k.settled x e v i
    ]

    abbrev pub Answer : State S B → Type 0
    Answer s = ((b : B) → s.stop ≡ Some b → Right b × Hit) × (s.stop ≡ None → Hit → ⊥)

    pub seek_open : Sound G → (f : ℕ) (v : S) → Good v → source < G.size → G.size ≤ f → mark_as source Open (λ w. New) to ≡ m₀
        → Answer (opening V G f source (begin V v))
    unfolding opening
    seek_open W zero v g l h e = absurd (omega arith)
    seek_open W (suc f) v g l h e =
        let c = K.at_block v source 0 g in
        subst (λ x. Answer (close V source (if_continue x s₁ (scan V (opening V G f) source (G.neighbors source) s₁)))) (sym c) (shut s₂.stop refl)
      where
        s₁ : State S B
        s₁ = discover V source (begin V v)

        s₂ : State S B
        s₂ = scan V (opening V G f) source (G.neighbors source) s₁

        q : Q source (G.neighbors source) s₁ s₂
        q = let c : V.reply v (Discover source 0) ≡ Continue = K.at_block v source 0 g in
            let w = unseen_mark_as source Open (λ w. New) tt refl G.size l in
            let n = unseen_most (λ w. New) G.size in
            (scan_law V G P E Q laws W f (opening V G f) (open_law V G P E Q laws W f) source (G.neighbors source) s₁ (ap stop_of c) (λ x i. i) (omega arith)).0

        known : Known s₁
        known =
            known_report (Discover source 0) (stamp V source Open (begin V v))
            (known_stamp source Open (begin V v) tt g (λ w t. absurd t) (λ w d. absurd cc) e (0, here) (λ d. absurd cc))

        both : (Running V G s₂ → Known s₂ × Steady s₁.mark s₂.mark × ((x : ℕ) → Member x (G.neighbors source) → Settled s₂.mark source x))
            × ((b : B) → s₂.stop ≡ Some b → Right b × Hit)
        both = q known (mark_as_same source Open (λ w. New)) (0, here)

        shut : (o : Option B) → s₂.stop ≡ o → Answer (unless_ended o s₂ (finish V source s₂))
        shut None z =
            let y = both.0 z in (
              λ b h. absurd (let n = ap stop_of (K.at_finish s₂.visitor source s₂.time y.0.good) in cc),
              λ _ w.
                  no_hit s₂.mark (all_settled s₂ y.0 y.1 y.2) w.1
                  (rw ((y.1 source).0 (rw (mark_as_same source Open (λ w. New)) tt), mark_as_same source Open (λ w. New)) tt) refl,
            )
        shut (Some b) z = (both.1, λ r. absurd cc)

    pub seek : Sound G → (v : S) → Good v → source < G.size → mark_as source Open (λ w. New) to ≡ m₀ → Answer (walk V G (source ∷ []) v)
    unfolding starts
    seek W v g l e = seek_open W G.size v g l (omega arith) e
