-- The newest of a stack, and a stack that has none.
use Rattle.std.proofs.Common.{◌≡◌, ℕ, zero, suc, ◌-◌, ◌<◌, ◌≤◌, List, [], ◌∷◌, length, Some, None, Option, refl, arith, MatchOption}
use Rattle.std.specs.List.{slice_get}
use Rattle.std.specs.Option.{option_flatten}
use Rattle.block_builder.specs.BlockState.{last_of}
use Rattle.blocks.specs.Highest.{above, highest}

-- what holds of the highest holds of each
under : {X : Type 0} (f : X → ℕ) (xs : List X) (i n : ℕ) → highest f xs ≤ n → MatchOption (slice_get xs i) (⊥ → ⊥) (λ x. f x ≤ n)
under f [] i n h = λ z. z
under f (x ∷ xs) zero n h = omega arith
under f (x ∷ xs) (suc i) n h = under f xs i n (omega arith)

pub last_under : {X : Type 0} (f : X → ℕ) (xs : List X) (o : Option X) (n : ℕ) → o ≡ last_of xs → highest f xs ≤ n
    → MatchOption o (⊥ → ⊥) (λ x. f x ≤ n)
last_under f xs o n e h = rw e (under f xs (length xs - 1) n h)

-- what holds of the highest holds of the last block of a stack with empty marks
flatten_under : (o : Option (Option ℕ)) (n : ℕ) → MatchOption o (⊥ → ⊥) (λ x. above x ≤ n) → MatchOption (option_flatten o) (⊥ → ⊥) (λ b. b < n)
flatten_under None n h = λ z. z
flatten_under (Some None) n h = λ z. z
flatten_under (Some (Some b)) n h = omega arith

pub finalizer_under : (xs : List (Option ℕ)) (r : Option ℕ) (n : ℕ) → r ≡ option_flatten (last_of xs) → highest above xs ≤ n
    → MatchOption r (⊥ → ⊥) (λ b. b < n)
finalizer_under xs r n e h = rw e (flatten_under (last_of xs) n (last_under above xs (last_of xs) n refl h))
