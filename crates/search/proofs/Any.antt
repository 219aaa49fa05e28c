-- A test asked of one number of a list after another.
use borrow.Author.Tests.{clash}
use Rattle.std.proofs.Common.{◌≡◌, ℕ, ◌<◌, Bool, true, false, ◌||◌, List, [], ◌∷◌, length, get_or, sym, refl, ap, ◌∙◌, inl, inr}
use Rattle.std.proofs.lemmas.Bool.{cases_Bool}
use Rattle.std.proofs.lemmas.List.Folds.{list_any_at}
use Rattle.graph.specs.Meaning.{Member}
use Rattle.std.specs.List.{list_any}

module _ (p : ℕ → Bool) where
  neither : (b c : Bool) → (b || c) ≡ false → (b ≡ false) × (c ≡ false)
  neither true c e = absurd (clash (sym e))
  neither false c e = (refl, e)

  -- where it holds of none, it does not hold of the first, nor of one of the rest
  pub none_first : (x : ℕ) (xs : List ℕ) → list_any p (x ∷ xs) ≡ false → (p x ≡ false) × (list_any p xs ≡ false)
  none_first x xs e = neither (p x) (list_any p xs) e

  pub none_of : (xs : List ℕ) → list_any p xs ≡ false → (x : ℕ) → Member x xs → p x ≡ false
  none_of [] e x m = absurd m
  none_of (y ∷ xs) e x (inl q) = ap p q ∙ (none_first y xs e).0
  none_of (y ∷ xs) e x (inr m) = none_of xs (none_first y xs e).1 x m

  pub none_at : (xs : List ℕ) → list_any p xs ≡ false → (i : ℕ) → i < length xs → p (get_or xs i 0) ≡ false
  none_at xs e i h = elim (cases_Bool (p (get_or xs i 0))) [ inl t ↦ absurd (clash (sym e ∙ list_any_at p xs i 0 h t)) | inr f ↦ f ]
