-- The law of the depth: with any bound that is not below the number of new blocks, an opening is the same.
use Rattle.std.proofs.Common.{◌≡◌, ℕ, zero, suc, ◌<◌, ◌≤◌, List, [], ◌∷◌, Some, None, Option, refl, ap, ◌∙◌, inl, inr, arith}
use Rattle.graph.specs.Meaning.{Sound, Meaning}
use Rattle.walk.specs.declared.event.Control.{Control}
use Rattle.walk.specs.declared.event.Control.TheVariants.{Continue, Prune, Break}
use Rattle.walk.specs.declared.event.DfsEvent.TheVariants.{Discover}
use Rattle.walk.specs.declared.mark.Mark.{Mark}
use Rattle.walk.specs.declared.mark.Mark.TheVariants.{New, Open, Done}
use Rattle.walk.specs.DepthSuffices.{DepthSuffices}
use Rattle.walk.specs.Marks.{mark_as, unseen}
use Rattle.walk.specs.Walk.{Visitor, State, stop_of, discover, finish, close, edge, scan, opening, starts, begin, if_continue, unless_ended, start_marked, start}
use Rattle.walk.proofs.Induct.{close_running, close_ended, edge_marked, edge_entered, edge_passed, Laws, scan_ended, open_law}
use Rattle.walk.proofs.Marks.{Grow, grow_mark_as, unseen_grow, unseen_mark_as, unseen_most}
use Rattle.walk.proofs.Starts.{Blocks}

module _ {S B : Type 0} (V : Visitor S B) (G : Meaning) where
  abbrev P : ℕ → State S B → State S B → Type 0
  P u s s' = Grow s.mark s'.mark × ((d : ℕ) → unseen s.mark G.size ≤ d → opening V G d u s ≡ s')

  abbrev E : ℕ → ℕ → State S B → State S B → Type 0
  E u v s s' = Grow s.mark s'.mark × ((d : ℕ) → unseen s.mark G.size ≤ d → edge V (opening V G d) u v s ≡ s')

  abbrev Q : ℕ → List ℕ → State S B → State S B → Type 0
  Q u vs s s' = Grow s.mark s'.mark × ((d : ℕ) → unseen s.mark G.size ≤ d → scan V (opening V G d) u vs s ≡ s')

  -- what follows the discovery of u, by the reply to it
  abbrev inner : ℕ → ℕ → State S B → Control B → State S B
  inner d u s c = if_continue c (discover V u s) (scan V (opening V G d) u (G.neighbors u) (discover V u s))

  module _ (u : ℕ) (s : State S B) (m : s.mark u ≡ New) (l : u < G.size) where
    abbrev reply : Control B
    reply = V.reply s.visitor (Discover u s.time)

    grown : Grow s.mark (mark_as u Open s.mark)
    grown = grow_mark_as u Open s.mark tt

    -- what stands inside ends in s₁, whatever bound does for it, and the close of u in s'
    opened : (c : Control B) (s₁ s' : State S B) → reply ≡ c → ((d : ℕ) → unseen (discover V u s).mark G.size ≤ d → inner d u s c ≡ s₁)
        → close V u s₁ ≡ s' → (d : ℕ) → unseen s.mark G.size ≤ d → opening V G d u s ≡ s'
    unfolding opening
    opened c s₁ s' e f g zero h = absurd (let k = unseen_mark_as u Open s.mark tt m G.size l in omega arith)
    opened c s₁ s' e f g (suc d) h =
        let k = unseen_mark_as u Open s.mark tt m G.size l in
        ap (λ k. close V u (inner d u s k)) e ∙ ap (close V u) (f d (omega arith)) ∙ g

  laws : Laws V G P E Q
  unfolding scan
  laws = record {
    open_halt =
        λ u s r m l b e. (
          grown u s m l,
          opened u s m l (Break b) (discover V u s) (discover V u s) e (λ d h. refl) (close_ended V G u (discover V u s) b (ap stop_of e)),
        );
    open_prune =
        λ u s r m l e. (
          λ w t. grow_mark_as u Done (mark_as u Open s.mark) tt w (grown u s m l w t),
          opened u s m l Prune (discover V u s) (finish V u (discover V u s)) e (λ d h. refl) (close_running V G u (discover V u s) (ap stop_of e)),
        );
    open_stop =
        λ u s r m l e s' q b h. (λ w t. q.0 w (grown u s m l w t), opened u s m l Continue s' s' e q.1 (close_ended V G u s' b h));
    open_go =
        λ u s r m l e s' q z. (
          λ w t. grow_mark_as u Done s'.mark tt w (q.0 w (grown u s m l w t)),
          opened u s m l Continue s' (finish V u s') e q.1 (close_running V G u s' z),
        );
    tree_stay = λ u v s r i m t. (λ w t. t, λ d h. edge_passed V G (opening V G d) u v New s r m (λ _. t));
    tree_go = λ u v s r i m e s' p. (p.0, λ d h. edge_entered V G (opening V G d) u v s r m e ∙ p.1 d h);
    back = λ u v s r i m. (λ w t. t, λ d h. edge_marked V G (opening V G d) u v Open s r m);
    cross = λ u v s r i m. (λ w t. t, λ d h. edge_marked V G (opening V G d) u v Done s r m);
    nil = λ u s r. (λ w t. t, λ d h. refl);
    cons =
        λ u v vs s s₁ s₂ r e r₁ q. (
          λ w t. q.0 w (e.0 w t),
          λ d h. ap (scan V (opening V G d) u vs) (e.1 d h) ∙ q.1 d (let k = unseen_grow s.mark s₁.mark e.0 G.size in omega arith),
        );
    halt = λ u v vs s s₁ r e b z. (e.0, λ d h. ap (scan V (opening V G d) u vs) (e.1 d h) ∙ scan_ended V G (opening V G d) u vs s₁ b z);
  }

  module _ (W : Sound G) (d : ℕ) (enough : G.size ≤ d) where
    starts_same : (us : List ℕ) (s : State S B) → Blocks G us → starts V G d us s ≡ starts V G G.size us s
    unfolding starts
    starts_same [] s b = refl
    starts_same (u ∷ us) s b =
        ap (starts V G d us) (by s.stop refl (s.mark u) refl) ∙ starts_same us (start V G G.size u s) (λ w j. b w (inr j))
      where
        by : (o : Option B) → s.stop ≡ o → (m : Mark) → s.mark u ≡ m
            → unless_ended o s (start_marked V G d u m s) ≡ unless_ended o s (start_marked V G G.size u m s)
        by None e New m =
            let most = unseen_most s.mark G.size in
            (open_law V G P E Q laws W G.size u s e m (b u (inl refl)) most).0.1 d (omega arith)
        by None e Open m = refl
        by None e Done m = refl
        by (Some x) e m i = refl

  pub depth_law : Sound G → (us : List ℕ) (v : S) → Blocks G us → DepthSuffices V G us v
  depth_law W us v b d enough = starts_same W d enough us (begin V v) b
