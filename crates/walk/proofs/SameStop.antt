-- Two visitors that reply alike have the same walk: their states correspond by h.
use Rattle.std.proofs.Common.{arith, ◌≡◌, ℕ, zero, suc, List, [], ◌∷◌, refl, ap, ◌∙◌}
use Rattle.graph.specs.Meaning.{Meaning}
use Rattle.walk.specs.declared.event.Control.{Control}
use Rattle.walk.specs.declared.event.DfsEvent.{DfsEvent}
use Rattle.walk.specs.declared.event.DfsEvent.TheVariants.{Discover, TreeEdge, BackEdge, CrossForwardEdge, Finish}
use Rattle.walk.specs.declared.mark.Mark.TheVariants.{Done}
use Rattle.walk.specs.Walk.{Visitor, State, report, stamp, discover, close, edge, scan, opening, starts, begin, walk, if_continue, unless_ended, start_marked}

module _ {S T B : Type 0} (V : Visitor S B) (U : Visitor T B) (h : S → T) (replies : (x : S) (e : DfsEvent) → U.reply (h x) e ≡ V.reply x e)
    (moves : (x : S) (e : DfsEvent) → U.next (h x) e ≡ h (V.next x e)) (G : Meaning) where
  abbrev carry : State S B → State T B
  carry s = record { mark = s.mark; time = s.time; visitor = h s.visitor; log = s.log; stop = s.stop }

  report_carry : (e : DfsEvent) (s : State S B) → report U e (carry s) ≡ carry (report V e s)
  report_carry e s = rw (moves s.visitor e, replies s.visitor e)

  abbrev Alike : (ℕ → State S B → State S B) → (ℕ → State T B → State T B) → Type 0
  Alike go go' = (v : ℕ) (s : State S B) → go' v (carry s) ≡ carry (go v s)

  module _ (go : ℕ → State S B → State S B) (go' : ℕ → State T B → State T B) (alike : Alike go go') where
    edge_carry : (u v : ℕ) (s : State S B) → edge U go' u v (carry s) ≡ carry (edge V go u v s)
    edge_carry u v s =
        grind (
          arith,
          report_carry (TreeEdge u v) s,
          report_carry (BackEdge u v) s,
          report_carry (CrossForwardEdge u v) s,
          replies s.visitor (TreeEdge u v),
          alike v (report V (TreeEdge u v) s),
        )

    scan_carry : (u : ℕ) (vs : List ℕ) (s : State S B) → scan U go' u vs (carry s) ≡ carry (scan V go u vs s)
    unfolding scan
    scan_carry u [] s = refl
    scan_carry u (v ∷ vs) s = ap (scan U go' u vs) (edge_carry u v s) ∙ scan_carry u vs (edge V go u v s)

    inside_carry : (u : ℕ) (c : Control B) (s : State S B)
        → if_continue c (carry s) (scan U go' u (G.neighbors u) (carry s)) ≡ carry (if_continue c s (scan V go u (G.neighbors u) s))
    inside_carry u c s = grind (arith, scan_carry u (G.neighbors u) s)

  close_carry : (u : ℕ) (s : State S B) → close U u (carry s) ≡ carry (close V u s)
  close_carry u s = grind (arith, report_carry (Finish u s.time) (stamp V u Done s))

  open_carry : (f : ℕ) → Alike (opening V G f) (opening U G f)
  unfolding opening
  open_carry zero u s = refl
  open_carry (suc f) u s =
      let e = Discover u s.time in
      rw (moves s.visitor e, replies s.visitor e)
      (ap (close U u) (inside_carry (opening V G f) (opening U G f) (open_carry f) u (V.reply s.visitor e) (discover V u s))
      ∙ close_carry u (if_continue (V.reply s.visitor e) (discover V u s) (scan V (opening V G f) u (G.neighbors u) (discover V u s))))

  starts_carry : (us : List ℕ) (s : State S B) → starts U G G.size us (carry s) ≡ carry (starts V G G.size us s)
  unfolding starts
  starts_carry [] s = refl
  starts_carry (u ∷ us) s =
      ap (starts U G G.size us) (grind (arith, open_carry G.size u s))
      ∙ starts_carry us (unless_ended s.stop s (start_marked V G G.size u (s.mark u) s))

  pub same_stop : (us : List ℕ) (x : S) → (walk U G us (h x)).stop ≡ (walk V G us x).stop
  same_stop us x = ap (λ s. s.stop) (starts_carry us (begin V x))

  pub same_log : (us : List ℕ) (x : S) → (walk U G us (h x)).log ≡ (walk V G us x).log
  same_log us x = ap (λ s. s.log) (starts_carry us (begin V x))
