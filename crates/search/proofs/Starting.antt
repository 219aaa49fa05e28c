-- Before each start the walk is bound for its own end.
use Rattle.std.proofs.Common.{◌≡◌, ℕ, suc, ◌+◌, ◌<◌, ◌≤◌, List, [], ◌∷◌, length, get_or, drop, replicate, Some, None, Option, sym, refl, ap, ◌∙◌, subst, add-one, arith, drop_of_length-le, drop-cons}
use Rattle.std.proofs.lemmas.List.{get_or-replicate, length-replicate}
use Rattle.graph.specs.Meaning.{Meaning}
use Rattle.walk.specs.declared.mark.Mark.{Mark}
use Rattle.walk.specs.declared.mark.Mark.TheVariants.{New, Open, Done}
use Rattle.walk.specs.Marks.{mark_of}
use Rattle.walk.specs.Walk.{Visitor, State, opening, starts, begin, start_marked, unless_ended}
use Rattle.walk.proofs.Marks.{unseen_most}
use Rattle.visit.specs.Standing.{Ended}
use Rattle.search.specs.declared.explore.Search.{Search}
use Rattle.search.specs.Explored.{AtRest}

module _ {S B : Type 0} (V : Visitor S B) (G : Meaning) where
  starts_ended : (us : List ℕ) (s : State S B) (b : B) → s.stop ≡ Some b → starts V G G.size us s ≡ s
  unfolding starts
  starts_ended [] s b h = refl
  starts_ended (u ∷ us) s b h =
      subst (λ o. starts V G G.size us (unless_ended o s (start_marked V G G.size u (s.mark u) s)) ≡ s) (sym h) (starts_ended us s b h)

-- no block is discovered yet
pub at_rest_first : {X S P B : Type 0} (V : Visitor S B) (G : Meaning) (p : Search X S P) → G.size ≤ length p.stack.now.slots.now → p.stack.now.used ≡ 0
    → p.guard.now.marks.now ≡ replicate G.size 0 → p.time ≡ 0 → AtRest G p (begin V p.visitor.now)
at_rest_first V G p room empty clean first =
    let m = unseen_most (λ k. New) G.size in
    let l = ap length clean ∙ length-replicate G.size 0 in
    record {
      room = room;
      empty = empty;
      idle =
          record {
            at = record {
              long = omega arith;
              holds = λ k h. ap (λ xs. mark_of (get_or xs k 0)) clean ∙ ap mark_of (get_or-replicate G.size k 0 0 h);
              time_is = sym first;
              visitor_is = refl;
            };
            running = refl;
            clock = omega arith;
          };
    }

module _ {X S P B : Type 0} (V : Visitor S B) (G : Meaning) where
  -- before the start i, bound for `end`
  pub record Bound (us : List ℕ) (p : Search X S P) (i : ℕ) (end : State S B) : Type 0 where
    pub s : State S B
    pub rests : AtRest G p s
    pub leads : starts V G G.size (drop i us) s ≡ end

module _ {X S P B : Type 0} {V : Visitor S B} {G : Meaning} where
  module _ {us : List ℕ} {p : Search X S P} {i : ℕ} {end : State S B} (o : Bound V G us p i end) (more : i < length us) where
    onward : starts V G G.size (drop (suc i) us) (unless_ended o.s.stop o.s (start_marked V G G.size (get_or us i 0) (o.s.mark (get_or us i 0)) o.s)) ≡ end
    unfolding starts
    onward = ap (λ xs. starts V G G.size xs o.s) (sym (drop-cons us i 0 more)) ∙ o.leads

    next : (s' : State S B) → unless_ended o.s.stop o.s (start_marked V G G.size (get_or us i 0) (o.s.mark (get_or us i 0)) o.s) ≡ s'
        → starts V G G.size (drop (i + 1) us) s' ≡ end
    next s' e = ap (λ k. starts V G G.size (drop k us) s') (add-one i) ∙ ap (starts V G G.size (drop (suc i) us)) (sym e) ∙ onward

    -- the start is discovered already
    pub bound_skip : get_or us i 0 < G.size → (mark_of (get_or p.guard.now.marks.now (get_or us i 0) 0) ≡ New → ⊥) → Bound V G us p (i + 1) end
    bound_skip l d = record { s = o.s; rests = o.rests; leads = next o.s (by o.s.stop o.rests.idle.running (o.s.mark (get_or us i 0)) refl) }
      where
        by : (x : Option B) → x ≡ None → (m : Mark) → o.s.mark (get_or us i 0) ≡ m
            → unless_ended x o.s (start_marked V G G.size (get_or us i 0) m o.s) ≡ o.s
        by None e New m = absurd (d (o.rests.idle.at.holds (get_or us i 0) l ∙ m))
        by None e Open m = refl
        by None e Done m = refl
        by (Some b) e m k = let z : ◌≡◌ {A = ℕ} 0 1 = cc in absurd (omega arith)

    -- the start is opened
    module _ (l : get_or us i 0 < G.size) (new : mark_of (get_or p.guard.now.marks.now (get_or us i 0) 0) ≡ New) where
      opened_start : unless_ended o.s.stop o.s (start_marked V G G.size (get_or us i 0) (o.s.mark (get_or us i 0)) o.s) ≡ opening V G G.size (get_or us i 0) o.s
      opened_start =
          ap (λ x. unless_ended x o.s (start_marked V G G.size (get_or us i 0) (o.s.mark (get_or us i 0)) o.s)) o.rests.idle.running
          ∙ ap (λ m. start_marked V G G.size (get_or us i 0) m o.s) (sym (o.rests.idle.at.holds (get_or us i 0) l) ∙ new)

      pub bound_next : {p' : Search X S P} → AtRest G p' (opening V G G.size (get_or us i 0) o.s) → Bound V G us p' (i + 1) end
      bound_next h =
          record { s = opening V G G.size (get_or us i 0) o.s; rests = h; leads = next (opening V G G.size (get_or us i 0) o.s) opened_start }

      pub bound_over : {v' : S} {x : B} → Ended x v' (opening V G G.size (get_or us i 0) o.s) → Ended x v' end
      bound_over {v'} {x} h =
          let s' = opening V G G.size (get_or us i 0) o.s in
          let z : s' ≡ end = sym (starts_ended V G (drop (i + 1) us) s' x h.0) ∙ next s' opened_start in
          (sym (ap (λ y. y.stop) z) ∙ h.0, sym (ap (λ y. y.visitor) z) ∙ h.1)

  pub bound_end : {us : List ℕ} {p : Search X S P} {i : ℕ} {end : State S B} → Bound V G us p i end → length us ≤ i
      → (end.stop ≡ None) × (end.visitor ≡ p.visitor.now)
  unfolding starts
  bound_end {us} {i = i} {end} o e =
      let z : o.s ≡ end = ap (λ xs. starts V G G.size xs o.s) (sym (drop_of_length-le us e)) ∙ o.leads in
      (sym (ap (λ y. y.stop) z) ∙ o.rests.idle.running, sym (ap (λ y. y.visitor) z) ∙ o.rests.idle.at.visitor_is)
