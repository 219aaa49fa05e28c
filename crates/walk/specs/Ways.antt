-- Ways from block to block. Assumes nothing.
--
--   Way step a k b       a way of k steps from a to b, each one of those that `step` has; it is nonempty if k is not 0
--   Distance step a b k  k is the fewest steps on a way from a to b
use Rattle.std.specs.Prelude.{ℕ, zero, suc, ◌≤◌}

pub data Way (step : ℕ → ℕ → Type 0) : ℕ → ℕ → ℕ → Type 0 where
  here : {u : ℕ} → Way step u zero u
  on : {u v w k : ℕ} → step u v → Way step v k w → Way step u (suc k) w

pub record Distance (step : ℕ → ℕ → Type 0) (a b k : ℕ) : Type 0 where
  pub way : Way step a k b
  pub fewest : (j : ℕ) → Way step a j b → k ≤ j
