-- The depth-first walk of a graph, under a visitor that hears each event and may prune or break. Assumes nothing.
--
--   Visitor S B         the reply and the next state, fixed by the state and the event; a Break carries a B
--   Report B            an event as it was reported, with the reply to it
--   State S B           where a walk stands: marks, next number, the visitor's state, reports (newest first), the value of the Break that ended it
--   stop_of c           the value of a Break, if c is one
--   if_continue c a b   b where the reply c is Continue, else a
--   unless_ended o a b  b where no Break has ended the walk, else a
--   report e            the event e is reported
--   stamp u m           u is marked m, and the number goes up
--   discover, finish    u is marked so, and that is reported with the number
--   close u             u is finished, unless the walk has ended
--   edge, scan          one neighbour of u is read; a list of them is. `go` opens a block
--   opening d u         u is discovered, its list read, and u closed; d bounds how deep openings stand in one another
--   starts d us         the starts in order, those discovered passed over
--   begin v, walk us v  before the first start; the whole walk, where openings go as deep as there are blocks
use Rattle.std.specs.Prelude.{ℕ, zero, suc, List, [], ◌∷◌, Some, None, Option}
use Rattle.graph.specs.Meaning.{Meaning}
use Rattle.walk.specs.declared.event.Control.{Control}
use Rattle.walk.specs.declared.event.Control.TheVariants.{Continue, Prune, Break}
use Rattle.walk.specs.declared.event.DfsEvent.{DfsEvent}
use Rattle.walk.specs.declared.event.DfsEvent.TheVariants.{Discover, TreeEdge, BackEdge, CrossForwardEdge, Finish}
use Rattle.walk.specs.declared.mark.Mark.{Mark}
use Rattle.walk.specs.declared.mark.Mark.TheVariants.{New, Open, Done}
use Rattle.walk.specs.Marks.{mark_as}

pub record Visitor (S B : Type 0) : Type 0 where
  pub reply : S → DfsEvent → Control B
  pub next : S → DfsEvent → S

pub record Report (B : Type 0) : Type 0 where
  pub event : DfsEvent
  pub reply : Control B

pub record State (S B : Type 0) : Type 0 where
  pub mark : ℕ → Mark
  pub time : ℕ
  pub visitor : S
  pub log : List (Report B)
  pub stop : Option B

abbrev pub stop_of : {B : Type 0} → Control B → Option B
stop_of Continue = None
stop_of Prune = None
stop_of (Break b) = Some b

abbrev pub if_continue : {A B : Type 0} → Control B → A → A → A
if_continue Continue a b = b
if_continue Prune a b = a
if_continue (Break x) a b = a

abbrev pub unless_ended : {A B : Type 0} → Option B → A → A → A
unless_ended None a b = b
unless_ended (Some x) a b = a

module _ {S B : Type 0} (V : Visitor S B) where
  abbrev pub report : DfsEvent → State S B → State S B
  report e s =
      let c = V.reply s.visitor e in
      record { mark = s.mark; time = s.time; visitor = V.next s.visitor e; log = record { event = e; reply = c } ∷ s.log; stop = stop_of c }

  abbrev pub stamp : ℕ → Mark → State S B → State S B
  stamp u m s = record { mark = mark_as u m s.mark; time = suc s.time; visitor = s.visitor; log = s.log; stop = s.stop }

  abbrev pub discover : ℕ → State S B → State S B
  discover u s = report (Discover u s.time) (stamp u Open s)

  abbrev pub finish : ℕ → State S B → State S B
  finish u s = report (Finish u s.time) (stamp u Done s)

  abbrev pub close : ℕ → State S B → State S B
  close u s = unless_ended s.stop s (finish u s)

  -- the neighbour v, marked m, is read: a new one is opened where the reply is Continue
  abbrev pub read_marked : (ℕ → State S B → State S B) → ℕ → ℕ → Mark → State S B → State S B
  read_marked go u v New s = if_continue (V.reply s.visitor (TreeEdge u v)) (report (TreeEdge u v) s) (go v (report (TreeEdge u v) s))
  read_marked go u v Open s = report (BackEdge u v) s
  read_marked go u v Done s = report (CrossForwardEdge u v) s

  abbrev pub edge : (ℕ → State S B → State S B) → ℕ → ℕ → State S B → State S B
  edge go u v s = unless_ended s.stop s (read_marked go u v (s.mark v) s)

  unfoldable pub scan : (ℕ → State S B → State S B) → ℕ → List ℕ → State S B → State S B
  scan go u [] s = s
  scan go u (v ∷ vs) s = scan go u vs (edge go u v s)

  abbrev pub begin : S → State S B
  begin v = record { mark = λ w. New; time = 0; visitor = v; log = []; stop = None }

  module _ (G : Meaning) where
    unfoldable pub opening : ℕ → ℕ → State S B → State S B
    opening zero u s = s
    opening (suc d) u s =
        close u (if_continue (V.reply s.visitor (Discover u s.time)) (discover u s) (scan (opening d) u (G.neighbors u) (discover u s)))

    -- the start u, marked m, is opened if it is new
    abbrev pub start_marked : ℕ → ℕ → Mark → State S B → State S B
    start_marked d u New s = opening d u s
    start_marked d u Open s = s
    start_marked d u Done s = s

    abbrev pub start : ℕ → ℕ → State S B → State S B
    start d u s = unless_ended s.stop s (start_marked d u (s.mark u) s)

    unfoldable pub starts : ℕ → List ℕ → State S B → State S B
    starts d [] s = s
    starts d (u ∷ us) s = starts d us (start d u s)

    abbrev pub walk : List ℕ → S → State S B
    walk us v = starts G.size us (begin v)
