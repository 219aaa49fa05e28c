-- What a stack holds after one write, and how much.
use Rattle.std.proofs.Common.{◌≡◌, ℕ, suc, ◌+◌, ◌<◌, ◌≤◌, List, [], ◌∷◌, reverse, length, get_or, take, set, refl, ap, ◌∙◌, arith, length-take}
use mathlib.Core.List.{reverse-append}
use Rattle.std.proofs.lemmas.List.{take_more, take_more_set, length-reverse}
use Rattle.visit.specs.declared.frame.Frame.{Frame}
use Rattle.visit.specs.Held.{held}
use Rattle.visit.specs.OpenFrames.{opened}

module _ {X : Type 0} (xs : List X) (k : ℕ) where
  pub held_push : (x : X) → k < length xs → held (set xs k x) (k + 1) ≡ x ∷ held xs k
  unfolding held
  held_push x h = ap reverse (take_more_set xs k x h) ∙ reverse-append (take k xs) (x ∷ [])

  pub held_top : (x : X) → k < length xs → held xs (k + 1) ≡ get_or xs k x ∷ held xs k
  unfolding held
  held_top x h = ap reverse (take_more xs k x h) ∙ reverse-append (take k xs) (get_or xs k x ∷ [])

  held_length : k ≤ length xs → length (held xs k) ≡ k
  unfolding held
  held_length h = length-reverse (take k xs) ∙ (let l = length-take k xs in omega arith)

opened_length : {P : Type 0} (rest : P → List ℕ) (fs : List (Frame P)) → length (opened rest fs) ≡ length fs
opened_length rest [] = refl
opened_length rest (f ∷ fs) = ap suc (opened_length rest fs)

-- as many blocks are open as slots are in use
pub depth_is : {P : Type 0} (rest : P → List ℕ) (xs : List (Frame P)) (k : ℕ) → k ≤ length xs → length (opened rest (held xs k)) ≡ k
depth_is rest xs k h = opened_length rest (held xs k) ∙ held_length xs k h
