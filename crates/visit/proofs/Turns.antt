-- One turn of the walk leaves the end it is bound for as it was.
use Rattle.std.proofs.Common.{◌≡◌, ℕ, Bool, true, false, ◌+◌, ◌<◌, List, [], ◌∷◌, length, get_or, set, Some, None, sym, refl, ap, ◌∙◌, subst, arith, length-set}
use Rattle.std.specs.ControlFlow.{break_value}
use Rattle.std.specs.declared.ops.ControlFlow.{ControlFlow}
use Rattle.std.specs.declared.ops.ControlFlow.TheVariants as flow
use Rattle.graph.specs.Meaning.{Meaning}
use Rattle.walk.specs.declared.event.Control.{Control}
use Rattle.walk.specs.declared.event.Control.TheVariants.{Continue, Prune, Break}
use Rattle.walk.specs.declared.event.DfsEvent.{DfsEvent}
use Rattle.walk.specs.declared.event.DfsEvent.TheVariants.{Discover, TreeEdge, Finish}
use Rattle.walk.specs.declared.mark.Mark.{Mark}
use Rattle.walk.specs.declared.mark.Mark.TheVariants.{New, Open, Done}
use Rattle.walk.specs.Marks.{mark_as, unseen, byte_of, mark_of}
use Rattle.walk.specs.OpenBlocks.{OpenBlock, unwind}
use Rattle.walk.specs.Replies.{flow_of}
use Rattle.walk.specs.Walk.{Visitor, State, stop_of, report, stamp, discover, finish}
use Rattle.walk.proofs.Bytes.{holds_set}
use Rattle.walk.proofs.Cases.{event_of}
use Rattle.walk.proofs.Induct.{Stays}
use Rattle.walk.proofs.Marks.{Seen, grow_mark_as, unseen_grow, unseen_mark_as}
use Rattle.walk.proofs.Turns.{unwind_ended, turn_close, turn_edge, turn_enter, turn_open, after_discover}
use Rattle.visit.specs.Standing.{At, Ended, Standing, Stands, Opens, GoesOn}
use Rattle.visit.specs.Turn.{Reads}

-- the code called the visitor: what it replied, and how it stands after
pub record Visits {S B : Type 0} (V : Visitor S B) (e : DfsEvent) (v v' : S) (c : Control B) : Type 0 where
  pub answer : c ≡ V.reply v e
  pub state : v' ≡ V.next v e

pub visits : {S B : Type 0} {V : Visitor S B} {e : DfsEvent} {v v' : S} {c : Control B} → c ≡ V.reply v e → v' ≡ V.next v e → Visits V e v v' c
visits a b = record { answer = a; state = b }

-- the same, where the code holds the event under another name
pub heard_as : {S B : Type 0} {V : Visitor S B} {e e' : DfsEvent} {v v' : S} {c : Control B} → c ≡ V.reply v e' → v' ≡ V.next v e' → e' ≡ e
    → Visits V e v v' c
heard_as {V = V} {v = v} a b i = visits (a ∙ ap (V.reply v) i) (b ∙ ap (V.next v) i)

-- the list of a block that is opened, which is empty where its reading is pruned
abbrev pub list_read : {B : Type 0} → ControlFlow B Bool → List ℕ → List ℕ
list_read (flow.Continue true) l = l
list_read (flow.Continue false) l = []
list_read (flow.Break x) l = []

-- what holds by the reply holds of the reply told as control flow
by_reply : {B : Type 0} (P : ControlFlow B Bool → Type 0) (c : Control B) → (c ≡ Continue → P (flow.Continue true))
    → (c ≡ Prune → P (flow.Continue false)) → ((x : B) → c ≡ Break x → P (flow.Break x)) → {r : ControlFlow B Bool} → r ≡ flow_of c → P r
by_reply {B} P c on shut over e = subst P (sym e) (by c refl)
  where
    by : (k : Control B) → c ≡ k → P (flow_of k)
    by Continue i = on i
    by Prune i = shut i
    by (Break x) i = over x i

module _ {S B : Type 0} (V : Visitor S B) where
  -- the event is reported
  reported : {n : ℕ} {marks : List ℕ} {t : ℕ} {v v' : S} {s : State S B} {c : Control B} (e : DfsEvent) → At n marks t v s → Visits V e v v' c
      → At n marks t v' (report V e s)
  reported e a h =
      record { long = a.long; holds = a.holds; time_is = a.time_is; visitor_is = ap (λ y. V.next y e) a.visitor_is ∙ sym h.state }

  -- u is marked, and the number goes up
  stamped : {n : ℕ} {marks : List ℕ} {t : ℕ} {v : S} {s : State S B} (u : ℕ) (m : Mark) → u < n → At n marks t v s
      → At n (set marks u (byte_of m)) (t + 1) v (stamp V u m s)
  stamped {n} {marks} {t} {v} {s} u m l a =
      let h = a.long in let k = a.time_is in
      record {
        long = (let z = length-set marks u (byte_of m) in omega arith);
        holds = holds_set marks s.mark n u m h l a.holds;
        time_is = omega arith;
        visitor_is = a.visitor_is;
      }

  replied : {n : ℕ} {marks : List ℕ} {t : ℕ} {v v' : S} {s : State S B} {c : Control B} (e : DfsEvent) → At n marks t v s → Visits V e v v' c
      → V.reply s.visitor e ≡ c
  replied e a h = ap (λ y. V.reply y e) a.visitor_is ∙ sym h.answer

module _ {S B : Type 0} (V : Visitor S B) (G : Meaning) {end : State S B} where
  -- the walk has ended
  arrived : {marks : List ℕ} {t : ℕ} {v : S} {s : State S B} (fs : List OpenBlock) (x : B) → At G.size marks t v s → s.stop ≡ Some x
      → unwind V G fs s ≡ end → Ended x v end
  arrived {s = s} fs x a h e =
      let z : s ≡ end = sym (unwind_ended V G fs s x h) ∙ e in
      (sym (ap (λ y. y.stop) z) ∙ h, sym (ap (λ y. y.visitor) z) ∙ a.visitor_is)

  -- the list of u is at its end
  module _ {marks : List ℕ} {t : ℕ} {v v' : S} {u : ℕ} {fs : List OpenBlock} {c : Control B}
      (st : Stands V G marks t v (record { block = u; rest = [] } ∷ fs) end) (h : Visits V (Finish u t) v v' c) where
    close_leads : unwind V G fs (finish V u st.s) ≡ end
    close_leads = sym (turn_close V G u fs st.s st.running) ∙ st.leads

    at_close : At G.size (set marks u 2) (t + 1) v' (finish V u st.s)
    at_close =
        subst (λ k. At G.size (set marks u 2) (t + 1) v' (report V (Finish u k) (stamp V u Done st.s))) (sym st.at.time_is)
        (reported V (Finish u t) (stamped V u Done st.blocks.0 st.at) h)

    close_reply : (finish V u st.s).stop ≡ stop_of c
    close_reply = ap (λ k. stop_of (V.reply st.s.visitor (Finish u k))) st.at.time_is ∙ ap stop_of (replied V (Finish u t) st.at h)

    closed_on : stop_of c ≡ None → Stands V G (set marks u 2) (t + 1) v' fs end
    closed_on e =
        let r = st.room in
        let k = st.clock in
        let l = unseen_grow st.s.mark (mark_as u Done st.s.mark) (grow_mark_as u Done st.s.mark tt) G.size in
        record {
          s = finish V u st.s;
          at = at_close;
          running = close_reply ∙ e;
          blocks = st.blocks.1;
          room = omega arith;
          clock = omega arith;
          leads = close_leads;
        }

    closed_over : (x : B) → c ≡ Break x → Ended x v' end
    closed_over x e = arrived fs x at_close (close_reply ∙ ap stop_of e) close_leads

    -- the block is closed, by the reply
    pub closed : {r : ControlFlow B Bool} → r ≡ flow_of c → GoesOn V G (set marks u 2) (t + 1) v' fs end (break_value r)
    closed = by_reply (λ r. GoesOn V G (set marks u 2) (t + 1) v' fs end (break_value r)) c (λ i. closed_on (ap stop_of i)) (λ i. closed_on (ap stop_of i)) closed_over

  -- what is read of a block is its mark
  pub marked : {marks : List ℕ} {t : ℕ} {v : S} {fs : List OpenBlock} {next : State S B → State S B} {w : ℕ} {m : Mark} → w < G.size
      → (st : Standing V G marks t v fs next end) → m ≡ mark_of (get_or marks w 0) → st.s.mark w ≡ m
  marked {w = w} inside st e = sym (st.at.holds w inside) ∙ sym e

  -- the neighbour w of u is read
  module _ {marks : List ℕ} {t : ℕ} {v v' : S} {u w : ℕ} {ws : List ℕ} {fs : List OpenBlock} {c : Control B} (m : Mark)
      (st : Stands V G marks t v (record { block = u; rest = w ∷ ws } ∷ fs) end) (mark-is : st.s.mark w ≡ m)
      (h : Visits V (event_of m u w) v v' c) where
    reply_is : V.reply st.s.visitor (event_of m u w) ≡ c
    reply_is = replied V (event_of m u w) st.at h

    stays : (m ≡ New → Stays V G c) → m ≡ New → Stays V G (V.reply st.s.visitor (TreeEdge u w))
    stays y i = subst (Stays V G) (sym reply_is ∙ ap (λ k. V.reply st.s.visitor (event_of k u w)) i) (y i)

    read_leads : (m ≡ New → Stays V G c) → unwind V G (record { block = u; rest = ws } ∷ fs) (report V (event_of m u w) st.s) ≡ end
    read_leads y = sym (turn_edge V G m u w ws fs st.s st.running mark-is (stays y)) ∙ st.leads

    read_on : (m ≡ New → Stays V G c) → stop_of c ≡ None → Stands V G marks t v' (record { block = u; rest = ws } ∷ fs) end
    read_on y e =
        record {
          s = report V (event_of m u w) st.s;
          at = reported V (event_of m u w) st.at h;
          running = ap stop_of reply_is ∙ e;
          blocks = st.blocks;
          room = st.room;
          clock = st.clock;
          leads = read_leads y;
        }

    read_over : (x : B) → c ≡ Break x → Ended x v' end
    read_over x e =
        arrived (record { block = u; rest = ws } ∷ fs) x (reported V (event_of m u w) st.at h) (ap stop_of (reply_is ∙ e))
        (read_leads (λ i. subst (Stays V G) (sym e) tt))

    -- a neighbour that is not new is passed over, by the reply
    pub read_seen : Seen m → {r : ControlFlow B Bool} → r ≡ flow_of c
        → GoesOn V G marks t v' (record { block = u; rest = ws } ∷ fs) end (break_value r)
    read_seen seen =
        let passed : stop_of c ≡ None → Stands V G marks t v' (record { block = u; rest = ws } ∷ fs) end = read_on (λ n. absurd (subst Seen n seen)) in
        by_reply (λ r. GoesOn V G marks t v' (record { block = u; rest = ws } ∷ fs) end (break_value r)) c (λ i. passed (ap stop_of i)) (λ i. passed (ap stop_of i)) read_over

  read_enter : {marks : List ℕ} {t : ℕ} {v v' : S} {u w : ℕ} {ws : List ℕ} {fs : List OpenBlock} {c : Control B} → w < G.size
      → New ≡ mark_of (get_or marks w 0) → Stands V G marks t v (record { block = u; rest = w ∷ ws } ∷ fs) end → Visits V (TreeEdge u w) v v' c
      → c ≡ Continue → Opens V G w marks t v' (record { block = u; rest = ws } ∷ fs) end
  read_enter {u = u} {w} {ws} {fs} l z st h e =
      record {
        s = report V (TreeEdge u w) st.s;
        at = reported V (TreeEdge u w) st.at h;
        running = ap stop_of (replied V (TreeEdge u w) st.at h ∙ e);
        blocks = st.blocks;
        room = st.room;
        clock = st.clock;
        leads = sym (turn_enter V G u w ws fs st.s st.running (marked l st z) (replied V (TreeEdge u w) st.at h ∙ e)) ∙ st.leads;
      }

  -- a new neighbour is opened or passed over, by the reply
  pub read_new : {marks : List ℕ} {t : ℕ} {v v' : S} {u w : ℕ} {ws : List ℕ} {fs : List OpenBlock} {c : Control B} → w < G.size
      → New ≡ mark_of (get_or marks w 0) → Stands V G marks t v (record { block = u; rest = w ∷ ws } ∷ fs) end → Visits V (TreeEdge u w) v v' c
      → {r : ControlFlow B Bool} → r ≡ flow_of c → Reads V G w marks t v' (record { block = u; rest = ws } ∷ fs) end r
  read_new {marks} {t} {v} {v'} {u} {w} {ws} {fs} {c} l z st h =
      let mark-is = marked l st z in
      by_reply (Reads V G w marks t v' (record { block = u; rest = ws } ∷ fs) end) c (read_enter l z st h)
      (λ i. read_on New st mark-is h (λ n. subst (Stays V G) (sym i) tt) (ap stop_of i)) (read_over New st mark-is h)

  -- the new block u is opened over fs
  module _ {marks : List ℕ} {t : ℕ} {v v' : S} {u : ℕ} {fs : List OpenBlock} {c : Control B} (inside : u < G.size)
      (unmarked : mark_of (get_or marks u 0) ≡ New) (st : Opens V G u marks t v fs end) (h : Visits V (Discover u t) v v' c) where
    new : st.s.mark u ≡ New
    new = marked inside st (sym unmarked)

    fewer : unseen (mark_as u Open st.s.mark) G.size < unseen st.s.mark G.size
    fewer = unseen_mark_as u Open st.s.mark tt new G.size inside

    pub depth_fits : length fs < G.size
    depth_fits = let r = st.room in let f = fewer in omega arith

    at_open : At G.size (set marks u 1) (t + 1) v' (discover V u st.s)
    at_open =
        subst (λ k. At G.size (set marks u 1) (t + 1) v' (report V (Discover u k) (stamp V u Open st.s))) (sym st.at.time_is)
        (reported V (Discover u t) (stamped V u Open inside st.at) h)

    open_reply : V.reply st.s.visitor (Discover u st.s.time) ≡ c
    open_reply = ap (λ k. V.reply st.s.visitor (Discover u k)) st.at.time_is ∙ replied V (Discover u t) st.at h

    open_leads : after_discover V G u fs st.s c ≡ end
    open_leads = ap (after_discover V G u fs st.s) (sym open_reply) ∙ sym (turn_open V G u fs st.s depth_fits) ∙ st.leads

    framed : (l : List ℕ) → stop_of c ≡ None → unwind V G (record { block = u; rest = l } ∷ fs) (discover V u st.s) ≡ end
        → Stands V G (set marks u 1) (t + 1) v' (record { block = u; rest = l } ∷ fs) end
    framed l e q =
        let r = st.room in
        let k = st.clock in
        let f = fewer in
        record {
          s = discover V u st.s;
          at = at_open;
          running = ap stop_of open_reply ∙ e;
          blocks = (inside, st.blocks);
          room = omega arith;
          clock = omega arith;
          leads = q;
        }

    opened_on : c ≡ Continue → Stands V G (set marks u 1) (t + 1) v' (record { block = u; rest = G.neighbors u } ∷ fs) end
    opened_on e = framed (G.neighbors u) (ap stop_of e) (ap (after_discover V G u fs st.s) (sym e) ∙ open_leads)

    opened_shut : c ≡ Prune → Stands V G (set marks u 1) (t + 1) v' (record { block = u; rest = [] } ∷ fs) end
    opened_shut e =
        framed [] (ap stop_of e)
        (turn_close V G u fs (discover V u st.s) (ap stop_of (open_reply ∙ e)) ∙ ap (after_discover V G u fs st.s) (sym e) ∙ open_leads)

    opened_over : (x : B) → c ≡ Break x → Ended x v' end
    opened_over x e =
        let z : discover V u st.s ≡ end = ap (after_discover V G u fs st.s) (sym e) ∙ open_leads in
        (sym (ap (λ y. y.stop) z) ∙ ap stop_of (open_reply ∙ e), sym (ap (λ y. y.visitor) z) ∙ at_open.visitor_is)

    -- the block is opened with the list that the reply leaves it
    pub opened : {r : ControlFlow B Bool} → r ≡ flow_of c
        → GoesOn V G (set marks u 1) (t + 1) v' (record { block = u; rest = list_read r (G.neighbors u) } ∷ fs) end (break_value r)
    opened =
        by_reply (λ r. GoesOn V G (set marks u 1) (t + 1) v' (record { block = u; rest = list_read r (G.neighbors u) } ∷ fs) end (break_value r)) c
        opened_on opened_shut opened_over

-- the code's own marks and frames, equal to those of the definition
pub placed : {S B : Type 0} (V : Visitor S B) (G : Meaning) {end : State S B} {marks marks' : List ℕ} {t u : ℕ} {v : S} {l l' : List ℕ} {fs fs' : List OpenBlock}
    → marks' ≡ marks → fs' ≡ record { block = u; rest = l' } ∷ fs → l' ≡ l → Stands V G marks t v (record { block = u; rest = l } ∷ fs) end
    → Stands V G marks' t v fs' end
placed V G {end} {marks} {marks'} {t} {u} {v} {l} {l'} {fs} {fs'} a b e st =
    subst (λ m. Stands V G m t v fs' end) (sym a)
    (subst (λ k. Stands V G marks t v k end) (sym (b ∙ ap (λ k. record { block = u; rest = k } ∷ fs) e)) st)
