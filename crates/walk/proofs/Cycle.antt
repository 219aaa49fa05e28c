-- The law of cycles.
use Rattle.std.proofs.Common.{◌≡◌, ℕ, ◌<◌, cond, [], ◌∷◌, is_some, Some, None, Option, refl, ap, arith, eq-eqb, eqb-true}
use Rattle.std.proofs.lemmas.Bool.{false≢true}
use Rattle.graph.specs.Meaning.{Sound, Meaning}
use Rattle.walk.specs.declared.event.Control.TheVariants.{Continue, Break}
use Rattle.walk.specs.declared.mark.Mark.TheVariants.{New, Open}
use Rattle.walk.specs.Cycle.{cycle_visitor, cyclic}
use Rattle.walk.specs.CycleIsWayBack.{CycleIsWayBack}
use Rattle.walk.specs.Walk.{State, walk}
use Rattle.walk.proofs.Marks.{mark_as_same}
use Rattle.walk.proofs.Seek.{Seeks, seek, Answer}
use Rattle.walk.proofs.Ways.{way_map}

cycle_seeks : (G : Meaning) (u : ℕ) → Seeks (cycle_visitor u) G (λ a b. Unit {0}) u u Open (λ x. Unit {0}) (λ b. Unit {0})
cycle_seeks G u = record {
  keep = λ x e g. tt;
  at_block = λ x v t g. refl;
  at_finish = λ x v t g. refl;
  hit = λ x a g o. (tt, ap (λ c. cond c (Break tt) Continue) (eq-eqb u u refl));
  found = λ x m a v g b h. grind (arith, eqb-true v u);
  go = λ x a v g o d. refl;
  may = λ x a v g h. tt;
}

pub cycle_law : (G : Meaning) → Sound G → (u : ℕ) → u < G.size → CycleIsWayBack G u (cyclic G u)
cycle_law G W u l = by end.stop refl
  where
    end : State (Unit {0}) (Unit {0})
    end = walk (cycle_visitor u) G (u ∷ []) tt

    answer : Answer (cycle_visitor u) G (λ a b. Unit {0}) u u Open (λ x. Unit {0}) (λ b. Unit {0}) (cycle_seeks G u) end
    answer =
        seek (cycle_visitor u) G (λ a b. Unit {0}) u u Open (λ x. Unit {0}) (λ b. Unit {0}) (cycle_seeks G u) W tt tt l
        (mark_as_same u Open (λ w. New))

    by : (o : Option (Unit {0})) → end.stop ≡ o → CycleIsWayBack G u (is_some o)
    by None e = (λ h. absurd (false≢true h), λ w. absurd (answer.1 e (w.0, way_map (λ a b i. (i, tt)) w.1)))
    by (Some b) e = (λ _. let h = (answer.0 b e).1 in (h.0, way_map (λ a b s. s.0) h.1), λ _. refl)
