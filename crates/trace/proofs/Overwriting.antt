-- A log that is written over, event by event.
use Rattle.std.proofs.Common.{◌≡◌, ◌<◌, ◌≤◌, List, [], ◌∷◌, ◌++◌, length, set, refl, ap, arith}
use Rattle.walk.specs.declared.event.DfsEvent.{DfsEvent}
use Rattle.trace.specs.Trace.{overwritten}

pub length_overwritten : (es xs : List DfsEvent) → length (overwritten es xs) ≡ length xs
unfolding overwritten
length_overwritten [] xs = refl
length_overwritten (e ∷ es) [] = refl
length_overwritten (e ∷ es) (x ∷ xs) = omega (arith, length_overwritten es xs)

pub overwritten_more : (es xs : List DfsEvent) (e : DfsEvent) → length es < length xs
    → set (overwritten es xs) (length es) e ≡ overwritten (es ++ (e ∷ [])) xs
unfolding overwritten
overwritten_more [] [] e h = absurd (omega arith)
overwritten_more [] (x ∷ xs) e h = refl
overwritten_more (d ∷ es) [] e h = absurd (omega arith)
overwritten_more (d ∷ es) (x ∷ xs) e h = ap (λ l. d ∷ l) (overwritten_more es xs e (omega arith))

pub overwritten_full : (es xs : List DfsEvent) (e : DfsEvent) → length xs ≤ length es → overwritten es xs ≡ overwritten (es ++ (e ∷ [])) xs
unfolding overwritten
overwritten_full [] [] e h = refl
overwritten_full [] (x ∷ xs) e h = absurd (omega arith)
overwritten_full (d ∷ es) [] e h = refl
overwritten_full (d ∷ es) (x ∷ xs) e h = ap (λ l. d ∷ l) (overwritten_full es xs e (omega arith))
