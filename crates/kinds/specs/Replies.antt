-- What becomes of a call that is refused, and of one that is not. Assumes nothing.
--
--   row test r rest   a row of a table of refusals: the refusal r where the test holds, else the rows below
--   after why a b     the state after a call: a, as it was, where the call is refused, else b
--   told why x        the reply: the refusal, or x
use Rattle.std.specs.Prelude.{Bool, cond, Some, None, Ok, Err, Option, Result}
use Rattle.kinds.specs.declared.refusal.Refusal.{Refusal}

abbrev pub row : Bool → Refusal → Option Refusal → Option Refusal
row test r rest = cond test (Some r) rest

abbrev pub after : {A : Type 0} → Option Refusal → A → A → A
after None a b = b
after (Some r) a b = a

abbrev pub told : {A : Type 0} → Option Refusal → A → Result A Refusal
told None x = Ok x
told (Some r) x = Err r
