-- The law of reach.
use Rattle.std.proofs.Common.{arith, ◌≡◌, ℕ, suc, ◌<◌, Bool, true, false, ◌≢◌, ◌↔◌, [], ◌∷◌, Some, None, Option, unwrap_or, sym, refl, inl, inr, eq-eqb, ne_eqb, eqb-true}
use Rattle.std.proofs.lemmas.Bool.{cases_eq, false≢true}
use Rattle.graph.specs.Meaning.{Sound, Member, Meaning}
use Rattle.walk.specs.declared.event.Control.{Control}
use Rattle.walk.specs.declared.event.Control.TheVariants.{Continue, Prune, Break}
use Rattle.walk.specs.declared.mark.Mark.TheVariants.{New, Open}
use Rattle.walk.specs.Reach.{reach_visitor, reachable, Passing, NeverStops}
use Rattle.walk.specs.ReachIsDistance.{ReachIsDistance}
use Rattle.walk.specs.Walk.{State, walk}
use Rattle.walk.specs.Ways.{Way, here, on, Distance}
use Rattle.walk.proofs.Least.{distance}
use Rattle.walk.proofs.Marks.{mark_as_other}
use Rattle.walk.proofs.Seek.{Seeks, seek, Answer}
use Rattle.walk.proofs.Ways.{way_map}

-- the step may be taken
abbrev Free : Meaning → (ℕ → Control Bool) → ℕ → ℕ → Type 0
Free G F u v = (G.permitted u v ≡ true) × (F u ≡ Continue)

module _ (G : Meaning) (F : ℕ → Control Bool) (n : NeverStops F) where
  reach_seeks : (a to : ℕ) → Seeks (reach_visitor G F to) G (Free G F) a to New (λ x. Unit {0}) (λ b. b ≡ true)
  reach_seeks a to = record {
    keep = λ x e g. tt;
    at_block = λ x v t g. refl;
    at_finish = λ x v t g. refl;
    hit = λ x u g o. (true, rw (o.1, o.0, eq-eqb to to refl));
    found = λ x m u v g b h. grind (arith, n u b, eqb-true v to);
    go = λ x u v g o d. rw (o.1, o.0, ne_eqb v to d);
    may = λ x u v g h. grind arith;
  }

  passing? : (a b : ℕ) → Member b (G.neighbors a) → Dec (Passing G F a b)
  passing? a b i = by (G.permitted a b) refl (F a) refl
    where
      by : (p : Bool) → G.permitted a b ≡ p → (c : Control Bool) → F a ≡ c → Dec (Passing G F a b)
      by true p Continue q = yes (record { listed = i; permitted = p; passes = q })
      by false p c q = no (λ h. let z = h.permitted in cc)
      by true p Prune q = no (λ h. let z = h.passes in cc)
      by true p (Break x) q = no (λ h. let z = h.passes in cc)

  nonempty : {a k b : ℕ} → Way (Passing G F) a k b → a ≢ b → (j : ℕ) × Way (Passing G F) a (suc j) b
  nonempty here d = absurd (d refl)
  nonempty (on {k = j} p w) d = (j, on p w)

  module _ (W : Sound G) (a b : ℕ) (l : a < G.size) where
    abbrev end : State (Unit {0}) Bool
    end = walk (reach_visitor G F b) G (a ∷ []) tt

    nearest : (k : ℕ) → Way (Passing G F) a k b → (d : ℕ) × Distance (Passing G F) a b d
    nearest k w = distance G.neighbors (Passing G F) (λ x y p. p.listed) passing? a b k w

    answer : a ≢ b → Answer (reach_visitor G F b) G (Free G F) a b New (λ x. Unit {0}) (λ b. b ≡ true) (reach_seeks a b) end
    answer d =
        seek (reach_visitor G F b) G (Free G F) a b New (λ x. Unit {0}) (λ b. b ≡ true) (reach_seeks a b) W tt tt l
        (mark_as_other a Open (λ w. New) b (λ e. d (sym e)))

    other : a ≢ b → (o : Option Bool) → end.stop ≡ o → (unwrap_or o false ≡ true) ↔ ((k : ℕ) × Distance (Passing G F) a b k)
    other d None e = (
      λ h. absurd (false≢true h),
      λ w. let j = nonempty w.1.way d in absurd ((answer d).1 e (j.0, way_map (λ x y p. (p.listed, (p.permitted, p.passes))) j.1)),
    )
    other d (Some c) e = (
      λ _. let h =
          ((answer d).0 c e).1 in nearest (suc h.0) (way_map (λ x y p. record { listed = p.0; permitted = p.1.0; passes = p.1.1 }) h.1),
      λ _. ((answer d).0 c e).0,
    )

pub reach_law : (G : Meaning) → Sound G → (F : ℕ → Control Bool) (a b : ℕ) → a < G.size → ReachIsDistance G F a b (reachable G F a b)
reach_law G W F a b l n = elim (cases_eq a b) [
  | inl e ↦ rw (eq-eqb a b e) (λ _. nearest G F n W a b l 0 (rw e here), λ _. refl)
  | inr d ↦ rw (ne_eqb a b d) (other G F n W a b l d (end G F n W a b l).stop refl)
]
