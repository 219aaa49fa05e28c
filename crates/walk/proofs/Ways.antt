-- Ways made longer, and ways over other steps.
use Rattle.std.proofs.Common.{ℕ, suc}
use Rattle.walk.specs.Ways.{Way, here, on}

pub snoc : {step : ℕ → ℕ → Type 0} {u k v w : ℕ} → Way step u k v → step v w → Way step u (suc k) w
snoc here s = on s here
snoc (on r a) s = on r (snoc a s)

pub way_map : {p q : ℕ → ℕ → Type 0} → ((a b : ℕ) → p a b → q a b) → {a k b : ℕ} → Way p a k b → Way q a k b
way_map f here = here
way_map f (on {u = a} {v = b} s w) = on (f a b s) (way_map f w)
