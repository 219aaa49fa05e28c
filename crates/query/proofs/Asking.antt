-- What the walk of a query says, and the law of its answer.
use Rattle.std.proofs.Common.{◌≡◌, ℕ, Bool, true, false, cond, ◌≢◌, List, [], ◌∷◌, is_some, None, Ok, Option, Result, unwrap_or, sym, refl, ap, ◌∙◌, subst, inl, eq-eqb, ne_eqb}
use Rattle.kinds.specs.declared.refusal.Refusal.{Refusal}
use Rattle.kinds.specs.Replies.{told}
use Rattle.graph.specs.Meaning.{Meaning, Sound}
use Rattle.walk.specs.declared.event.Control.{Control}
use Rattle.walk.specs.Cycle.{cycle_reply, cycle_visitor, cyclic}
use Rattle.walk.specs.CycleIsWayBack.{CycleIsWayBack}
use Rattle.walk.specs.Reach.{reach_reply, reach_visitor, reachable}
use Rattle.walk.specs.ReachIsDistance.{ReachIsDistance}
use Rattle.walk.specs.Walk.{Visitor, walk}
use Rattle.walk.proofs.Cycle.{cycle_law}
use Rattle.walk.proofs.Reach.{reach_law}
use Rattle.walk.proofs.SameStop.{same_stop}
use Rattle.search.specs.Refused.{refused}
use Rattle.search.proofs.Laws.{accepted}
use Rattle.search.proofs.Refusals.{ready, below}

-- a query is accepted, and x is what the definition answers: so is what holds of that
pub record Answered (why : Option Refusal) (a x : Bool) (Law : Bool → Type 0) : Type 0 where
  pub answer : ◌≡◌ {A = Result Bool Refusal} (Ok x) (told why a)
  pub law : Law x

answered : {Law : Bool → Type 0} (why : Option Refusal) (a x : Bool) → why ≡ None → x ≡ a → Law a → Answered why a x Law
answered {Law} why a x w e l = record { answer = ap Ok e ∙ ap (λ k. told k a) (sym w); law = subst Law (sym e) l }

module _ (G : Meaning) (W : Sound G) (marks : List ℕ) (room : ℕ) where
  -- a walk by a visitor that replies as the definition's does
  pub cycle_answered : {S : Type 0} (U : Visitor S (Unit {0})) (x : S) (u : ℕ) → ((e : _) → U.reply x e ≡ cycle_reply u e)
      → ((e : _) → U.next x e ≡ x)
      → (o : Option (Unit {0})) → ◌≡◌ {A = Result (Option (Unit {0})) Refusal} (Ok o) (told (refused G.size (u ∷ []) marks room) (walk U G (u ∷ []) x).stop)
      → (y : Bool) → y ≡ is_some o → Answered (refused G.size (u ∷ []) marks room) (cyclic G u) y (CycleIsWayBack G u)
  cycle_answered U x u replies moves o a y q =
      let why = refused G.size (u ∷ []) marks room in
      let h = accepted why (walk U G (u ∷ []) x).stop o a in
      let block = below G.size (u ∷ []) (ready G.size (u ∷ []) marks room h.0).all_blocks u (inl refl) in
      let same = same_stop (cycle_visitor u) U (λ _. x) (λ _ e. replies e) (λ _ e. moves e) G (u ∷ []) tt in
      answered {Law = CycleIsWayBack G u} why (cyclic G u) y h.0 (q ∙ ap is_some (sym h.1 ∙ same)) (cycle_law G W u block)

  module _ (F : ℕ → Control Bool) (a b : ℕ)
      (free : ◌≡◌ {A = Result (Unit {0}) Refusal} (Ok tt) (told (refused G.size (a ∷ b ∷ []) marks room) tt)) where
    reach_answered : (x : Bool) → x ≡ reachable G F a b
        → Answered (refused G.size (a ∷ b ∷ []) marks room) (reachable G F a b) x (ReachIsDistance G F a b)
    reach_answered x e =
        let why = refused G.size (a ∷ b ∷ []) marks room in
        let h = accepted why tt tt free in
        let block = below G.size (a ∷ b ∷ []) (ready G.size (a ∷ b ∷ []) marks room h.0).all_blocks a (inl refl) in
        answered {Law = ReachIsDistance G F a b} why (reachable G F a b) x h.0 e (reach_law G W F a b block)

    pub same_block : a ≡ b → Answered (refused G.size (a ∷ b ∷ []) marks room) (reachable G F a b) true (ReachIsDistance G F a b)
    same_block e =
        reach_answered true
        (sym (ap (λ k. cond k true (unwrap_or (walk (reach_visitor G F b) G (a ∷ []) tt).stop false)) (eq-eqb a b e)))

    pub other_block : {S : Type 0} (U : Visitor S Bool) (x : S) → ((e : _) → U.reply x e ≡ reach_reply G F b e) → ((e : _) → U.next x e ≡ x)
        → a ≢ b → (why : Option Refusal) (o : Option Bool) → ◌≡◌ {A = Result (Option Bool) Refusal} (Ok o) (told why (walk U G (a ∷ []) x).stop)
        → (y : Bool) → y ≡ unwrap_or o false
        → Answered (refused G.size (a ∷ b ∷ []) marks room) (reachable G F a b) y (ReachIsDistance G F a b)
    other_block U x replies moves d why o t y q =
        let same = same_stop (reach_visitor G F b) U (λ _. x) (λ _ e. replies e) (λ _ e. moves e) G (a ∷ []) tt in
        let h = accepted why (walk U G (a ∷ []) x).stop o t in
        reach_answered y
        (q ∙ ap (λ k. unwrap_or k false) (sym h.1 ∙ same)
        ∙ sym (ap (λ k. cond k true (unwrap_or (walk (reach_visitor G F b) G (a ∷ []) tt).stop false)) (ne_eqb a b d)))
