-- A test asked of one number of a list after another.
use Rattle.std.proofs.Common.{◌≡◌, ℕ, ◌+◌, ◌<◌, ◌≤◌, Bool, true, false, ◌||◌, List, length, get_or, drop, ap, ◌∙◌}
use Rattle.std.proofs.lemmas.List.{at_drop_more, at_drop_all}
use Rattle.std.specs.List.{list_any}

module _ (p : ℕ → Bool) where
  -- the loop's step: the test holds here, or what is left decides; at the end it does not hold
  pub any_here : (xs : List ℕ) (i : ℕ) → i < length xs → p (get_or xs i 0) ≡ true → list_any p (drop i xs) ≡ true
  any_here xs i h e = at_drop_more (list_any p) xs i 0 h ∙ ap (λ b. b || list_any p (drop (i + 1) xs)) e

  pub any_later : (xs : List ℕ) (i : ℕ) → i < length xs → p (get_or xs i 0) ≡ false → list_any p (drop i xs) ≡ list_any p (drop (i + 1) xs)
  any_later xs i h e = at_drop_more (list_any p) xs i 0 h ∙ ap (λ b. b || list_any p (drop (i + 1) xs)) e

  pub any_end : (xs : List ℕ) (i : ℕ) → length xs ≤ i → list_any p (drop i xs) ≡ false
  any_end xs i h = at_drop_all (list_any p) xs i h
