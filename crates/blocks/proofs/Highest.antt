-- The highest number of a list, as the list grows or shrinks.
use Rattle.std.proofs.Common.{◌≡◌, ℕ, zero, suc, ◌-◌, ◌<◌, ◌≤◌, max, List, [], ◌∷◌, ◌++◌, length, get_or, take, Some, None, Option, ap, arith, MatchOption}
use Rattle.blocks.specs.Highest.{highest, above}

pub highest_push : {X : Type 0} (f : X → ℕ) (xs : List X) (x : X) → highest f (xs ++ x ∷ []) ≡ max (highest f xs) (f x)
highest_push f [] x = omega arith
highest_push f (y ∷ xs) x = let h = highest_push f xs x in omega arith

pub highest_at : {X : Type 0} (f : X → ℕ) (xs : List X) (k : ℕ) (d : X) → k < length xs → f (get_or xs k d) ≤ highest f xs
highest_at f [] k d l = omega arith
highest_at f (x ∷ xs) zero d l = omega arith
highest_at f (x ∷ xs) (suc k) d l = let h = highest_at f xs k d (omega arith) in omega arith

pub highest_take : {X : Type 0} (f : X → ℕ) (j : ℕ) (xs : List X) → highest f (take j xs) ≤ highest f xs
highest_take f zero xs = omega arith
highest_take f (suc j) [] = omega arith
highest_take f (suc j) (x ∷ xs) = let h = highest_take f j xs in omega arith

-- what holds of the highest holds of the last
pub last_under : {X : Type 0} (f : X → ℕ) (ys xs : List X) (x : X) (n : ℕ) → ys ≡ xs → 0 < length ys → x ≡ get_or ys (length ys - 1) x → highest f xs ≤ n
    → f x ≤ n
last_under f ys xs x n e l g h =
    let lt : length ys - 1 < length ys = omega arith in
    let a = highest_at f ys (length ys - 1) x lt in
    let b : f x ≡ f (get_or ys (length ys - 1) x) = ap f g in
    let d : highest f ys ≡ highest f xs = ap (highest f) e in
    omega arith
