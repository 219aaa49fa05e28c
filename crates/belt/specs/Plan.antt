-- What a belt plan means. Assumes nothing.
--
--   empty              the plan with no transfer and no lock
--   row_of plan a      the word of the segment a's transfers; a number that is no segment has none
--   transfer plan a b  whether a's row has b
--   locked plan b      whether b is locked
--   permitted plan a b whether a's row has b and b is not locked
--   meaning_of plan    the plan as a graph: it lists each row by rising number
--   no_segment s       refused where s is no segment
--   no_segments a b    refused where a or b is none
use Rattle.std.specs.Prelude.{ℕ, Bool, cond, not, ◌&&◌, replicate, None, Option, ◌==◌, nat_le, nat_lt, slice_index}
use Rattle.kinds.specs.declared.refusal.Refusal.{Refusal}
use Rattle.kinds.specs.declared.refusal.Refusal.TheVariants.{NoBlock}
use Rattle.kinds.specs.Replies.{row}
use Rattle.graph.specs.Meaning.{Meaning}
use Rattle.belt.specs.declared.plan.BeltPlan.{BeltPlan}
use Rattle.belt.specs.Words.{bit, segments}

abbrev pub empty : BeltPlan
empty = record { rows = replicate 64 0; locked = 0 }

abbrev pub row_of : BeltPlan → ℕ → ℕ
row_of plan a = cond (nat_lt a 64) (slice_index plan.rows a) 0

-- whether the word p has the segment b
abbrev pub has : ℕ → ℕ → Bool
has b p = nat_lt b 64 && bit b p == 1

abbrev pub transfer : BeltPlan → ℕ → ℕ → Bool
transfer plan a b = has b (row_of plan a)

abbrev pub locked : BeltPlan → ℕ → Bool
locked plan b = has b plan.locked

abbrev pub permitted : BeltPlan → ℕ → ℕ → Bool
permitted plan a b = transfer plan a b && not (locked plan b)

abbrev pub meaning_of : BeltPlan → Meaning
meaning_of plan = record { size = 64; neighbors = λ a. segments (row_of plan a); permitted = permitted plan }

abbrev pub no_segment : ℕ → Option Refusal
no_segment s = row (nat_le 64 s) NoBlock None

abbrev pub no_segments : ℕ → ℕ → Option Refusal
no_segments a b = row (nat_le 64 a) NoBlock (row (nat_le 64 b) NoBlock None)
