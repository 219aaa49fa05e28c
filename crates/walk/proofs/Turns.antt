-- One turn of a loop over the open blocks leaves the walk's end as it was.
use Rattle.std.proofs.Common.{◌≡◌, ℕ, suc, ◌-◌, ◌<◌, List, [], ◌∷◌, length, Some, refl, ap, ◌∙◌, arith}
use Rattle.graph.specs.Meaning.{Meaning}
use Rattle.walk.specs.declared.event.Control.{Control}
use Rattle.walk.specs.declared.event.Control.TheVariants.{Continue, Prune, Break}
use Rattle.walk.specs.declared.event.DfsEvent.TheVariants.{Discover, TreeEdge}
use Rattle.walk.specs.declared.mark.Mark.{Mark}
use Rattle.walk.specs.declared.mark.Mark.TheVariants.{New}
use Rattle.walk.specs.OpenBlocks.{OpenBlock, unwind}
use Rattle.walk.specs.Walk.{Visitor, State, stop_of, report, discover, finish, close, scan, opening, if_continue}
use Rattle.walk.proofs.Cases.{event_of}
use Rattle.walk.proofs.Induct.{Running, Stays, close_running, close_ended, scan_ended, edge_entered, edge_passed}

module _ {S B : Type 0} (V : Visitor S B) (G : Meaning) where
  -- once ended, nothing more is done
  pub unwind_ended : (fs : List OpenBlock) (s : State S B) (b : B) → s.stop ≡ Some b → unwind V G fs s ≡ s
  unfolding unwind
  unwind_ended [] s b h = refl
  unwind_ended (f ∷ fs) s b h =
      ap (λ x. unwind V G fs (close V f.block x)) (scan_ended V G (opening V G (G.size - length (f ∷ fs))) f.block f.rest s b h)
      ∙ ap (unwind V G fs) (close_ended V G f.block s b h) ∙ unwind_ended fs s b h

  -- the list of the top is at its end: the block is closed
  pub turn_close : (u : ℕ) (fs : List OpenBlock) (s : State S B) → Running V G s
      → unwind V G (record { block = u; rest = [] } ∷ fs) s ≡ unwind V G fs (finish V u s)
  unfolding unwind scan
  turn_close u fs s r = ap (unwind V G fs) (close_running V G u s r)

  -- a neighbour that is not opened
  pub turn_edge : (m : Mark) (u v : ℕ) (vs : List ℕ) (fs : List OpenBlock) (s : State S B) → Running V G s → s.mark v ≡ m
      → (m ≡ New → Stays V G (V.reply s.visitor (TreeEdge u v)))
      → unwind V G (record { block = u; rest = v ∷ vs } ∷ fs) s ≡ unwind V G (record { block = u; rest = vs } ∷ fs) (report V (event_of m u v) s)
  unfolding unwind scan
  turn_edge m u v vs fs s r e t =
      ap (λ x. unwind V G fs (close V u (scan V (opening V G (G.size - suc (length fs))) u vs x)))
      (edge_passed V G (opening V G (G.size - suc (length fs))) u v m s r e t)

  -- opening, by the reply to the discovery
  abbrev pub after_discover : ℕ → List OpenBlock → State S B → Control B → State S B
  after_discover u fs s Continue = unwind V G (record { block = u; rest = G.neighbors u } ∷ fs) (discover V u s)
  after_discover u fs s Prune = unwind V G fs (finish V u (discover V u s))
  after_discover u fs s (Break b) = discover V u s

  -- a block is opened over the frames fs, which are fewer than the blocks
  pub turn_open : (u : ℕ) (fs : List OpenBlock) (s : State S B) → length fs < G.size
      → unwind V G fs (opening V G (G.size - length fs) u s) ≡ after_discover u fs s (V.reply s.visitor (Discover u s.time))
  unfolding unwind opening
  turn_open u fs s l = ap (λ k. unwind V G fs (opening V G k u s)) more ∙ by (V.reply s.visitor (Discover u s.time)) refl
    where
      more : G.size - length fs ≡ suc (G.size - suc (length fs))
      more = omega arith

      by : (c : Control B) → V.reply s.visitor (Discover u s.time) ≡ c
          → unwind V G fs (close V u (if_continue c (discover V u s) (scan V (opening V G (G.size - suc (length fs))) u (G.neighbors u) (discover V u s))))
          ≡ after_discover u fs s c
      by Continue e = refl
      by Prune e = ap (unwind V G fs) (close_running V G u (discover V u s) (ap stop_of e))
      by (Break b) e =
          ap (unwind V G fs) (close_ended V G u (discover V u s) b (ap stop_of e)) ∙ unwind_ended fs (discover V u s) b (ap stop_of e)

  -- a neighbour that is opened
  pub turn_enter : (u v : ℕ) (vs : List ℕ) (fs : List OpenBlock) (s : State S B) → Running V G s → s.mark v ≡ New
      → V.reply s.visitor (TreeEdge u v) ≡ Continue
      → unwind V G (record { block = u; rest = v ∷ vs } ∷ fs) s
      ≡ unwind V G (record { block = u; rest = vs } ∷ fs) (opening V G (G.size - suc (length fs)) v (report V (TreeEdge u v) s))
  unfolding unwind scan
  turn_enter u v vs fs s r e c =
      ap (λ x. unwind V G fs (close V u (scan V (opening V G (G.size - suc (length fs))) u vs x)))
      (edge_entered V G (opening V G (G.size - suc (length fs))) u v s r e c)
