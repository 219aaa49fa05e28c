-- The induction of the walk.
use Rattle.std.proofs.Common.{◌≡◌, ℕ, zero, suc, ◌<◌, ◌≤◌, List, [], ◌∷◌, Some, None, Option, sym, refl, ap, ◌∙◌, subst, inl, inr, arith}
use Rattle.graph.specs.Meaning.{Sound, Member, Meaning}
use Rattle.walk.specs.declared.event.Control.{Control}
use Rattle.walk.specs.declared.event.Control.TheVariants.{Continue, Prune, Break}
use Rattle.walk.specs.declared.event.DfsEvent.TheVariants.{Discover, TreeEdge, BackEdge, CrossForwardEdge}
use Rattle.walk.specs.declared.mark.Mark.{Mark}
use Rattle.walk.specs.declared.mark.Mark.TheVariants.{New, Open, Done}
use Rattle.walk.specs.Marks.{mark_as, unseen}
use Rattle.walk.specs.Walk.{Visitor, State, stop_of, report, discover, finish, close, edge, scan, opening, if_continue, unless_ended, read_marked}
use Rattle.walk.proofs.Cases.{event_of}
use Rattle.walk.proofs.Marks.{Grow, grow_mark_as, unseen_grow, unseen_mark_as}

module _ {S B : Type 0} (V : Visitor S B) (G : Meaning) where
  abbrev pub Running : State S B → Type 0
  Running s = s.stop ≡ None

  abbrev pub Stays : Control B → Type 0
  Stays Continue = ⊥
  Stays Prune = Unit {0}
  Stays (Break b) = Unit {0}

  pub record Laws (P : ℕ → State S B → State S B → Type 0) (E : ℕ → ℕ → State S B → State S B → Type 0)
      (Q : ℕ → List ℕ → State S B → State S B → Type 0) : Type 0 where
    pub open_halt : (u : ℕ) (s : State S B) → Running s → s.mark u ≡ New → u < G.size → (b : B)
        → V.reply s.visitor (Discover u s.time) ≡ Break b → P u s (discover V u s)
    pub open_prune : (u : ℕ) (s : State S B) → Running s → s.mark u ≡ New → u < G.size → V.reply s.visitor (Discover u s.time) ≡ Prune
        → P u s (finish V u (discover V u s))
    pub open_stop : (u : ℕ) (s : State S B) → Running s → s.mark u ≡ New → u < G.size → V.reply s.visitor (Discover u s.time) ≡ Continue
        → (s' : State S B) → Q u (G.neighbors u) (discover V u s) s' → (b : B) → s'.stop ≡ Some b → P u s s'
    pub open_go : (u : ℕ) (s : State S B) → Running s → s.mark u ≡ New → u < G.size → V.reply s.visitor (Discover u s.time) ≡ Continue
        → (s' : State S B) → Q u (G.neighbors u) (discover V u s) s' → Running s' → P u s (finish V u s')
    pub tree_stay : (u v : ℕ) (s : State S B) → Running s → Member v (G.neighbors u) → s.mark v ≡ New → Stays (V.reply s.visitor (TreeEdge u v))
        → E u v s (report V (TreeEdge u v) s)
    pub tree_go : (u v : ℕ) (s : State S B) → Running s → Member v (G.neighbors u) → s.mark v ≡ New
        → V.reply s.visitor (TreeEdge u v) ≡ Continue → (s' : State S B) → P v (report V (TreeEdge u v) s) s' → E u v s s'
    pub back : (u v : ℕ) (s : State S B) → Running s → Member v (G.neighbors u) → s.mark v ≡ Open → E u v s (report V (BackEdge u v) s)
    pub cross : (u v : ℕ) (s : State S B) → Running s → Member v (G.neighbors u) → s.mark v ≡ Done → E u v s (report V (CrossForwardEdge u v) s)
    pub nil : (u : ℕ) (s : State S B) → Running s → Q u [] s s
    pub cons : (u v : ℕ) (vs : List ℕ) (s s₁ s₂ : State S B) → Running s → E u v s s₁ → Running s₁ → Q u vs s₁ s₂ → Q u (v ∷ vs) s s₂
    pub halt : (u v : ℕ) (vs : List ℕ) (s s₁ : State S B) → Running s → E u v s s₁ → (b : B) → s₁.stop ≡ Some b → Q u (v ∷ vs) s s₁

  -- a block is closed while the walk runs, and not once it has ended
  pub close_running : (u : ℕ) (s : State S B) → Running s → close V u s ≡ finish V u s
  close_running u s r = ap (λ o. unless_ended o s (finish V u s)) r

  pub close_ended : (u : ℕ) (s : State S B) (b : B) → s.stop ≡ Some b → close V u s ≡ s
  close_ended u s b h = ap (λ o. unless_ended o s (finish V u s)) h

  -- nothing is done once the walk has ended
  pub scan_ended : (go : ℕ → State S B → State S B) (u : ℕ) (vs : List ℕ) (s : State S B) (b : B) → s.stop ≡ Some b → scan V go u vs s ≡ s
  unfolding scan
  scan_ended go u [] s b h = refl
  scan_ended go u (v ∷ vs) s b h =
      subst (λ o. scan V go u vs (unless_ended o s (read_marked V go u v (s.mark v) s)) ≡ s) (sym h) (scan_ended go u vs s b h)

  -- a neighbour is read by its mark
  pub edge_marked : (go : ℕ → State S B → State S B) (u v : ℕ) (m : Mark) (s : State S B) → Running s → s.mark v ≡ m
      → edge V go u v s ≡ read_marked V go u v m s
  edge_marked go u v m s r e = rw (r, e)

  -- a neighbour that is opened
  pub edge_entered : (go : ℕ → State S B → State S B) (u v : ℕ) (s : State S B) → Running s → s.mark v ≡ New
      → V.reply s.visitor (TreeEdge u v) ≡ Continue → edge V go u v s ≡ go v (report V (TreeEdge u v) s)
  edge_entered go u v s r m e =
      edge_marked go u v New s r m ∙ ap (λ c. if_continue c (report V (TreeEdge u v) s) (go v (report V (TreeEdge u v) s))) e

  -- a neighbour that is not opened is reported
  pub edge_passed : (go : ℕ → State S B → State S B) (u v : ℕ) (m : Mark) (s : State S B) → Running s → s.mark v ≡ m
      → (m ≡ New → Stays (V.reply s.visitor (TreeEdge u v))) → edge V go u v s ≡ report V (event_of m u v) s
  edge_passed go u v m s r e t = edge_marked go u v m s r e ∙ grind arith

  module _ (P : ℕ → State S B → State S B → Type 0) (E : ℕ → ℕ → State S B → State S B → Type 0) (Q : ℕ → List ℕ → State S B → State S B → Type 0)
      (L : Laws P E Q) (W : Sound G) where
    -- each with it that marks only grow
    abbrev Opened : ℕ → State S B → State S B → Type 0
    Opened u s s' = P u s s' × Grow s.mark s'.mark

    abbrev Edged : ℕ → ℕ → State S B → State S B → Type 0
    Edged u v s s' = E u v s s' × Grow s.mark s'.mark

    abbrev Scanned : ℕ → List ℕ → State S B → State S B → Type 0
    Scanned u vs s s' = Q u vs s s' × Grow s.mark s'.mark

    -- what is known of an opener that may go f deep
    abbrev Opener : ℕ → (ℕ → State S B → State S B) → Type 0
    Opener f go =
        (u : ℕ) (s : State S B) → Running s → s.mark u ≡ New → u < G.size → unseen s.mark G.size ≤ f → Opened u s (go u s)

    edge_law : (f : ℕ) (go : ℕ → State S B → State S B) → Opener f go → (u v : ℕ) (s : State S B) → Running s → Member v (G.neighbors u)
        → unseen s.mark G.size ≤ f → Edged u v s (edge V go u v s)
    edge_law f go H u v s r i h = subst (λ o. Edged u v s (unless_ended o s (read_marked V go u v (s.mark v) s))) (sym r) (by (s.mark v) refl)
      where
        onward : (c : Control B) → V.reply s.visitor (TreeEdge u v) ≡ c → s.mark v ≡ New
            → Edged u v s (if_continue c (report V (TreeEdge u v) s) (go v (report V (TreeEdge u v) s)))
        onward Continue e m =
            let p = H v (report V (TreeEdge u v) s) (ap stop_of e) m (W.below u v i) h in
            (L.tree_go u v s r i m e (go v (report V (TreeEdge u v) s)) p.0, p.1)
        onward Prune e m = (L.tree_stay u v s r i m (rw e tt), λ w t. t)
        onward (Break b) e m = (L.tree_stay u v s r i m (rw e tt), λ w t. t)

        by : (m : Mark) → s.mark v ≡ m → Edged u v s (read_marked V go u v m s)
        by New e = onward (V.reply s.visitor (TreeEdge u v)) refl e
        by Open e = (L.back u v s r i e, λ w t. t)
        by Done e = (L.cross u v s r i e, λ w t. t)

    pub scan_law : (f : ℕ) (go : ℕ → State S B → State S B) → Opener f go → (u : ℕ) (vs : List ℕ) (s : State S B) → Running s
        → ((v : ℕ) → Member v vs → Member v (G.neighbors u)) → unseen s.mark G.size ≤ f
        → Scanned u vs s (scan V go u vs s)
    unfolding scan
    scan_law f go H u [] s r i h = (L.nil u s r, λ w t. t)
    scan_law f go H u (v ∷ vs) s r i h =
        let e = edge_law f go H u v s r (i v (inl refl)) h in
        let k = unseen_grow s.mark (edge V go u v s).mark e.1 G.size in
        rest e (edge V go u v s).stop refl (λ r'. scan_law f go H u vs (edge V go u v s) r' (λ w j. i w (inr j)) (omega arith))
      where
        rest : Edged u v s (edge V go u v s) → (o : Option B) → (edge V go u v s).stop ≡ o
            → (Running (edge V go u v s) → Scanned u vs (edge V go u v s) (scan V go u vs (edge V go u v s)))
            → Scanned u (v ∷ vs) s (scan V go u vs (edge V go u v s))
        rest e None q ih =
            let p = ih q in (
              L.cons u v vs s (edge V go u v s) (scan V go u vs (edge V go u v s)) r e.0 q p.0,
              λ w t. p.1 w (e.1 w t),
            )
        rest e (Some b) q ih =
            rw (scan_ended go u vs (edge V go u v s) b q)
            (L.halt u v vs s (edge V go u v s) r e.0 b q, e.1)

    pub open_law : (f : ℕ) → Opener f (opening V G f)
    unfolding opening
    open_law zero u s r m l h = absurd (let k = unseen_mark_as u Open s.mark tt m G.size l in omega arith)
    open_law (suc f) u s r m l h = by (V.reply s.visitor (Discover u s.time)) refl (open_law f)
      where
        grown : Grow s.mark (mark_as u Open s.mark)
        grown = grow_mark_as u Open s.mark tt

        shut : (s' : State S B) → Q u (G.neighbors u) (discover V u s) s' → V.reply s.visitor (Discover u s.time) ≡ Continue
            → Grow s.mark s'.mark → (o : Option B) → s'.stop ≡ o
            → Opened u s (unless_ended o s' (finish V u s'))
        shut s' q e g None z =
            (L.open_go u s r m l e s' q z, λ w t. grow_mark_as u Done s'.mark tt w (g w t))
        shut s' q e g (Some b) z = (L.open_stop u s r m l e s' q b z, g)

        by : (c : Control B) → V.reply s.visitor (Discover u s.time) ≡ c → Opener f (opening V G f)
            → Opened u s (close V u (if_continue c (discover V u s) (scan V (opening V G f) u (G.neighbors u) (discover V u s))))
        by Continue e H =
            let w = unseen_mark_as u Open s.mark tt m G.size l in
            let p = scan_law f (opening V G f) H u (G.neighbors u) (discover V u s) (ap stop_of e) (λ v i. i) (omega arith) in
            let s' = scan V (opening V G f) u (G.neighbors u) (discover V u s) in
            shut s' p.0 e (λ w t. p.1 w (grown w t)) s'.stop refl
        by Prune e H =
            subst (Opened u s) (sym (close_running u (discover V u s) (ap stop_of e))) (
              L.open_prune u s r m l e,
              λ w t. grow_mark_as u Done (mark_as u Open s.mark) tt w (grown w t),
            )
        by (Break b) e H =
            subst (Opened u s) (sym (close_ended u (discover V u s) b (ap stop_of e))) (L.open_halt u s r m l b e, grown)
