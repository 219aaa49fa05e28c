-- What a graph means. Assumes nothing.
--
--   Meaning      how many blocks there are, the neighbours that each lists, and which steps are permitted
--   Member v l   v stands in the list l
--   Sound G      G has at most 512 blocks, lists blocks only, lists none for a number that is no block, and permits listed steps only
use Rattle.std.specs.Prelude.{◌≡◌, ℕ, ◌<◌, ◌≤◌, Bool, true, ◌⊎◌, List, [], ◌∷◌}

pub record Meaning : Type 0 where
  pub size : ℕ
  pub neighbors : ℕ → List ℕ
  pub permitted : ℕ → ℕ → Bool

abbrev pub Member : ℕ → List ℕ → Type 0
Member v [] = ⊥
Member v (x ∷ xs) = (v ≡ x) ⊎ Member v xs

pub record Sound (G : Meaning) : Type 0 where
  pub few : G.size ≤ 512
  pub below : (u v : ℕ) → Member v (G.neighbors u) → v < G.size
  pub outside : (u : ℕ) → G.size ≤ u → G.neighbors u ≡ []
  pub listed : (u v : ℕ) → G.permitted u v ≡ true → Member v (G.neighbors u)
