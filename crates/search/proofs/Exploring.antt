-- Where the walk stands as blocks are taken off the stack and put on it.
use Rattle.std.proofs.Common.{◌≡◌, ℕ, Bool, true, ◌+◌, ◌-◌, ◌*◌, ◌<◌, ◌≤◌, List, [], ◌∷◌, length, get_or, set, Option, sym, refl, ap, ◌∙◌, subst, inl, arith, length-set}
use Rattle.std.specs.declared.ops.ControlFlow.{ControlFlow}
use Rattle.std.specs.declared.ops.ControlFlow.TheVariants.{Continue}
use Rattle.graph.specs.Meaning.{Meaning, Member}
use Rattle.walk.specs.declared.mark.Mark.TheVariants.{New, Open}
use Rattle.walk.specs.Marks.{mark_of}
use Rattle.walk.specs.OpenBlocks.{OpenBlock, unwind}
use Rattle.walk.specs.Walk.{Visitor, State, opening}
use Rattle.walk.proofs.Marks.{unseen_mark_as, unseen_most}
use Rattle.visit.specs.declared.frame.Frame.{Frame}
use Rattle.visit.specs.declared.stack.Stack.{Stack}
use Rattle.visit.specs.Held.{held}
use Rattle.visit.specs.OpenFrames.{opened, stacked}
use Rattle.visit.specs.Standing.{Idle, Stands, Opens, GoesOn}
use Rattle.visit.specs.Turn.{IfEnter, ReadTurn, CloseTurn, OpenTurn, Reads}
use Rattle.visit.proofs.Holding.{depth_is}
use Rattle.visit.proofs.Turns.{marked}
use Rattle.search.specs.declared.explore.Search.{Search}
use Rattle.search.specs.Explored.{AtRest, Unread}
use Rattle.search.specs.Kept.{Kept}

pub first_member : {v : ℕ} {l vs : List ℕ} → l ≡ v ∷ vs → Member v l
first_member {v} e = subst (Member v) (sym e) (inl refl)

module _ {X S P : Type 0} where
  pub kept_on : {p p' p'' : Search X S P} → Kept p p' → Kept p' p'' → Kept p p''
  kept_on a b =
      let x = a.later in
      let y = b.later in
      record {
        graph = b.graph ∙ a.graph;
        heard = b.heard ∙ a.heard;
        guard = b.guard ∙ a.guard;
        same = b.same ∙ a.same;
        long = b.long ∙ a.long;
        slots = b.slots ∙ a.slots;
        later = omega arith;
      }

  -- one mark is written
  pub kept_set : {p p' p'' : Search X S P} (u c : ℕ) → Kept p p' → p''.graph ≡ p'.graph → p''.visitor.ghost_name ≡ p'.visitor.ghost_name
      → p''.guard.ghost_name ≡ p'.guard.ghost_name → p''.guard.now.marks.ghost_name ≡ p'.guard.now.marks.ghost_name → p''.guard.now.marks.now ≡ set p'.guard.now.marks.now u c
      → length p''.stack.now.slots.now ≡ length p'.stack.now.slots.now → p'.time ≤ p''.time → Kept p p''
  kept_set {p' = p'} u c k a b d m e r h =
      kept_on k
      (record { graph = a; heard = b; guard = d; same = m; long = ap length e ∙ length-set p'.guard.now.marks.now u c; slots = r; later = h })

module _ {S P B : Type 0} (V : Visitor S B) (G : Meaning) (rest : P → List ℕ) where
  -- no block is open
  pub emptied : (s : Stack (Frame P)) {marks : List ℕ} {t : ℕ} {x : S} {end : State S B} → s.used ≡ 0 → Stands V G marks t x (stacked rest s) end
      → Idle G.size marks t x end
  unfolding held unwind
  emptied s {marks} {t} {x} {end} e st =
      let z : st.s ≡ end = ap (λ j. unwind V G (opened rest (held s.slots.now j)) st.s) (sym e) ∙ st.leads in
      let c = st.clock in
      subst (Idle G.size marks t x) z (record { at = st.at; running = st.running; clock = omega arith })

module _ {X S P B : Type 0} (V : Visitor S B) (G : Meaning) (rest : P → List ℕ) where
  -- From p to p': what was kept, and that the walk is bound for the end that it was bound for, with the blocks fs open.
  pub record Along (p p' : Search X S P) (fs : List OpenBlock) : Type 0 where
    pub kept : Kept p p'
    pub bound : (end : State S B) → Unread V G rest p end → Stands V G p'.guard.now.marks.now p'.time p'.visitor.now fs end

  -- a start is about to be opened
  pub starting : {p : Search X S P} (u : ℕ) {s : State S B} → AtRest G p s
      → Opens V G u p.guard.now.marks.now p.time p.visitor.now (stacked rest p.stack.now) (opening V G G.size u s)
  unfolding held unwind
  starting {p} u {s} a =
      subst (λ j. Opens V G u p.guard.now.marks.now p.time p.visitor.now (opened rest (held p.stack.now.slots.now j)) (opening V G G.size u s)) (sym a.empty)
      (let i = a.idle in
      let c = i.clock in
      let m = unseen_most s.mark G.size in
      record {
        s = s;
        at = i.at;
        running = i.running;
        blocks = tt;
        room = omega arith;
        clock = omega arith;
        leads = ap (λ j. opening V G j u s) (whole G.size);
      })
    where
      whole : (n : ℕ) → n - 0 ≡ n
      whole n = omega arith

-- The walk stands in the list of the block u, which is on top of what the stack holds.
pub record Inside {X S P : Type 0} (G : Meaning) (p : Search X S P) (u : ℕ) : Type 0 where
  pub marks : G.size ≤ length p.guard.now.marks.now
  pub block : u < G.size
  pub depth : p.stack.now.used < G.size
  pub clock : p.time < 2 * G.size

module _ {X S P B : Type 0} {V : Visitor S B} {G : Meaning} {rest : P → List ℕ} where
  -- the top is taken off
  pub topped : {p p' : Search X S P} {s : Stack (Frame P)} {f : Frame P} → Along V G rest p p' (stacked rest p'.stack.now)
      → length s.slots.now ≡ length p'.stack.now.slots.now → held p'.stack.now.slots.now p'.stack.now.used ≡ f ∷ held s.slots.now s.used
      → Along V G rest p (record { graph = p'.graph; visitor = p'.visitor; guard = p'.guard; stack = record { ref_ptr = p'.stack.ref_ptr; ghost_name = p'.stack.ghost_name; now = s }; time = p'.time })
      (record { block = f.block; rest = rest f.place } ∷ stacked rest s)
  topped {p' = p'} a r e =
      let k = a.kept in
      record {
        kept = record { graph = k.graph; heard = k.heard; guard = k.guard; same = k.same; long = k.long; slots = r ∙ k.slots; later = k.later };
        bound = λ end st. subst (λ fs. Stands V G p'.guard.now.marks.now p'.time p'.visitor.now fs end) (ap (opened rest) e) (a.bound end st);
      }

  module _ {p p' : Search X S P} {u : ℕ} {l : List ℕ} (a : Along V G rest p p' (record { block = u; rest = l } ∷ stacked rest p'.stack.now)) where
    pub inside : (end : State S B) → Unread V G rest p end → Inside G p' u
    inside end st =
        let h = a.bound end st in
        let d = depth_is rest p'.stack.now.slots.now p'.stack.now.used p'.stack.now.fits in
        let r = h.room in
        let c = h.clock in
        record { marks = h.at.long; block = h.blocks.0; depth = omega arith; clock = omega arith }

    -- a neighbour is read
    pub reading : {v : ℕ} {vs : List ℕ} (x : S) (r : ControlFlow B Bool) → l ≡ v ∷ vs → v < G.size
        → ReadTurn V p'.guard.now.marks.now u v p'.visitor.now x r → (end : State S B) → Unread V G rest p end
        → Reads V G v p'.guard.now.marks.now p'.time x (record { block = u; rest = vs } ∷ stacked rest p'.stack.now) end r
    reading {vs = vs} x r e i turn end st =
        turn G p'.time vs (stacked rest p'.stack.now) end i
        (subst (λ k. Stands V G p'.guard.now.marks.now p'.time p'.visitor.now (record { block = u; rest = k } ∷ stacked rest p'.stack.now) end) e (a.bound end st))

    -- the list is at its end, and the block is closed
    pub closing : (marks : List ℕ) (x : S) (r : Option B) → l ≡ [] → CloseTurn V p'.guard.now.marks.now marks p'.time u p'.visitor.now x r
        → (end : State S B) → Unread V G rest p end → GoesOn V G marks (p'.time + 1) x (stacked rest p'.stack.now) end r
    closing marks x r e turn end st =
        turn G (stacked rest p'.stack.now) end
        (subst (λ k. Stands V G p'.guard.now.marks.now p'.time p'.visitor.now (record { block = u; rest = k } ∷ stacked rest p'.stack.now) end) e (a.bound end st))

    -- a neighbour that is to be opened
    module _ {v : ℕ} {place : P} (x : S) {enter : Bool} (e : l ≡ v ∷ rest place) (i : v < G.size)
        (turn : ReadTurn V p'.guard.now.marks.now u v p'.visitor.now x (Continue enter))
        (new : IfEnter {B = B} (Continue enter) (mark_of (get_or p'.guard.now.marks.now v 0) ≡ New)) (yes : enter ≡ true) where
      is_new : mark_of (get_or p'.guard.now.marks.now v 0) ≡ New
      is_new = subst (λ b. IfEnter {B = B} (Continue b) (mark_of (get_or p'.guard.now.marks.now v 0) ≡ New)) yes new

      above : (end : State S B) → Unread V G rest p end
          → Opens V G v p'.guard.now.marks.now p'.time x (record { block = u; rest = rest place } ∷ stacked rest p'.stack.now) end
      above end st =
          subst (λ b. Reads V G v p'.guard.now.marks.now p'.time x (record { block = u; rest = rest place } ∷ stacked rest p'.stack.now) end (Continue b)) yes
          (reading x (Continue enter) e i turn end st)

      pub room_above : (end : State S B) → Unread V G rest p end → p'.stack.now.used + 1 < G.size
      room_above end st =
          let o = above end st in
          let d = depth_is rest p'.stack.now.slots.now p'.stack.now.used p'.stack.now.fits in
          let r = o.room in
          let p = unseen_mark_as v Open o.s.mark tt (marked V G i o (sym is_new)) G.size i in
          omega arith

      -- the block is put back on the stack, and its neighbour opened over it
      pub entering : (s s' : Stack (Frame P)) (marks : List ℕ) (x' : S) (r : Option B)
          → held s.slots.now s.used ≡ record { block = u; place = place } ∷ held p'.stack.now.slots.now p'.stack.now.used
          → OpenTurn V G p'.guard.now.marks.now marks p'.time v x x' (stacked rest s) (stacked rest s') r
          → (end : State S B) → Unread V G rest p end → GoesOn V G marks (p'.time + 1) x' (stacked rest s') end r
      entering s s' marks x' r h opens end st =
          opens end i is_new (subst (λ k. Opens V G v p'.guard.now.marks.now p'.time x k end) (sym (ap (opened rest) h)) (above end st))
