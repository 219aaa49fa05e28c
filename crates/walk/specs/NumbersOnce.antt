-- The law of the numbers: m blocks found have the numbers below 2m, each once. Assumes nothing.
--
--   Numbered l   in the log l each block is found at most once, and the numbers are those below twice the blocks found, each once
use Rattle.std.specs.Prelude.{◌≡◌, ℕ, ◌*◌, ◌<◌, ◌≤◌, List, length}
use Rattle.walk.specs.Numbers.{count, found, numbers}
use Rattle.walk.specs.Walk.{Report}

pub record Numbered {B : Type 0} (l : List (Report B)) : Type 0 where
  pub once : (u : ℕ) → count u (found l) ≤ 1
  pub below : (t : ℕ) → t < 2 * length (found l) → count t (numbers l) ≡ 1
  pub beyond : (t : ℕ) → 2 * length (found l) ≤ t → count t (numbers l) ≡ 0
