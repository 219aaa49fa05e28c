-- What the edits of a belt plan change. Assumes nothing.
--
--   with_transfer a b v plan     the plan with b in a's row where v holds, and not there where it does not
--   with_lock s v plan           the plan with s locked where v holds, and not locked where it does not
--   TransferIs v a b old new     new has the transfer from a to b just where v says so, and is else as old
--   LockIs v s old new           new has the lock of s just where v says so, and is else as old
use Rattle.std.specs.Prelude.{◌≡◌, ℕ, Bool, ◌≢◌, slice_index, slice_set}
use Rattle.belt.specs.declared.plan.BeltPlan.{BeltPlan}
use Rattle.belt.specs.Words.{put}
use Rattle.belt.specs.Plan.{transfer, locked}

abbrev pub with_transfer : ℕ → ℕ → Bool → BeltPlan → BeltPlan
with_transfer a b v plan = record { rows = slice_set plan.rows a (put b v (slice_index plan.rows a)); locked = plan.locked }

abbrev pub with_lock : ℕ → Bool → BeltPlan → BeltPlan
with_lock s v plan = record { rows = plan.rows; locked = put s v plan.locked }

pub record TransferIs (v : Bool) (a b : ℕ) (old new : BeltPlan) : Type 0 where
  pub there : transfer new a b ≡ v
  pub others : (x y : ℕ) → (x ≡ a → y ≢ b) → transfer new x y ≡ transfer old x y
  pub locks : (s : ℕ) → locked new s ≡ locked old s

pub record LockIs (v : Bool) (s : ℕ) (old new : BeltPlan) : Type 0 where
  pub there : locked new s ≡ v
  pub others : (x : ℕ) → (x ≢ s) → locked new x ≡ locked old x
  pub transfers : (x y : ℕ) → transfer new x y ≡ transfer old x y
