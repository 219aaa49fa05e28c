-- The visitor at the end of a walk has heard the events of the log, one after another.
use Rattle.std.proofs.Common.{◌≡◌, ℕ, zero, suc, List, [], ◌∷◌, Some, None, Option, refl, ap}
use Rattle.graph.specs.Meaning.{Meaning}
use Rattle.walk.specs.declared.event.Control.{Control}
use Rattle.walk.specs.declared.event.Control.TheVariants.{Continue, Prune, Break}
use Rattle.walk.specs.declared.event.DfsEvent.{DfsEvent}
use Rattle.walk.specs.declared.event.DfsEvent.TheVariants.{Discover, TreeEdge, BackEdge, CrossForwardEdge, Finish}
use Rattle.walk.specs.declared.mark.Mark.{Mark}
use Rattle.walk.specs.declared.mark.Mark.TheVariants.{New, Open, Done}
use Rattle.walk.specs.Walk.{Visitor, Report, State, report, stamp, discover, finish, close, edge, scan, opening, starts, begin, walk, if_continue, unless_ended, read_marked, start_marked}

module _ {S B : Type 0} (V : Visitor S B) (x : S) where
  -- the state after the reports of a log, of which the newest is the first
  unfoldable pub heard : List (Report B) → S
  heard [] = x
  heard (r ∷ log) = V.next (heard log) r.event

  abbrev Heard : State S B → Type 0
  Heard s = s.visitor ≡ heard s.log

  report_heard : (e : DfsEvent) (s : State S B) → Heard s → Heard (report V e s)
  unfolding heard
  report_heard e s h = ap (λ y. V.next y e) h

  unless_heard : (o : Option B) (s t : State S B) → Heard s → Heard t → Heard (unless_ended o s t)
  unless_heard None s t h k = k
  unless_heard (Some b) s t h k = h

  if_heard : (c : Control B) (s t : State S B) → Heard s → Heard t → Heard (if_continue c s t)
  if_heard Continue s t h k = k
  if_heard Prune s t h k = h
  if_heard (Break b) s t h k = h

  abbrev Opener : (ℕ → State S B → State S B) → Type 0
  Opener go = (v : ℕ) (s : State S B) → Heard s → Heard (go v s)

  module _ (go : ℕ → State S B → State S B) (opens : Opener go) where
    read_heard : (u v : ℕ) (m : Mark) (s : State S B) → Heard s → Heard (read_marked V go u v m s)
    read_heard u v New s h =
        let t = report V (TreeEdge u v) s in
        if_heard (V.reply s.visitor (TreeEdge u v)) t (go v t) (report_heard (TreeEdge u v) s h) (opens v t (report_heard (TreeEdge u v) s h))
    read_heard u v Open s h = report_heard (BackEdge u v) s h
    read_heard u v Done s h = report_heard (CrossForwardEdge u v) s h

    scan_heard : (u : ℕ) (vs : List ℕ) (s : State S B) → Heard s → Heard (scan V go u vs s)
    unfolding scan
    scan_heard u [] s h = h
    scan_heard u (v ∷ vs) s h =
        scan_heard u vs (edge V go u v s) (unless_heard s.stop s (read_marked V go u v (s.mark v) s) h (read_heard u v (s.mark v) s h))

  close_heard : (u : ℕ) (s : State S B) → Heard s → Heard (close V u s)
  close_heard u s h = unless_heard s.stop s (finish V u s) h (report_heard (Finish u s.time) (stamp V u Done s) h)

  module _ (G : Meaning) where
    open_heard : (d : ℕ) → Opener (opening V G d)
    unfolding opening
    open_heard zero u s h = h
    open_heard (suc d) u s h =
        let t = discover V u s in
        let k = report_heard (Discover u s.time) (stamp V u Open s) h in
        let l = scan V (opening V G d) u (G.neighbors u) t in
        let c = V.reply s.visitor (Discover u s.time) in
        close_heard u (if_continue c t l) (if_heard c t l k (scan_heard (opening V G d) (open_heard d) u (G.neighbors u) t k))

    start_heard : (d u : ℕ) (m : Mark) (s : State S B) → Heard s → Heard (start_marked V G d u m s)
    start_heard d u New s h = open_heard d u s h
    start_heard d u Open s h = h
    start_heard d u Done s h = h

    starts_heard : (d : ℕ) (us : List ℕ) (s : State S B) → Heard s → Heard (starts V G d us s)
    unfolding starts
    starts_heard d [] s h = h
    starts_heard d (u ∷ us) s h =
        let t = start_marked V G d u (s.mark u) s in
        starts_heard d us (unless_ended s.stop s t) (unless_heard s.stop s t h (start_heard d u (s.mark u) s h))

    pub walk_heard : (us : List ℕ) → (walk V G us x).visitor ≡ heard (walk V G us x).log
    unfolding heard
    walk_heard us = starts_heard G.size us (begin V x) refl
