-- A walk that is recorded event by event. Assumes nothing.
--
--   Orders            what a traced walk is to do: the blocks to prune at and into, the number of the event to break at, and how many events
--                     are to come up to that one, that one included
--   pruned o e        the event e is to be pruned: the discovery of one of the blocks, or a tree edge into one
--   break_or n k c    the Break with n where there are k events to come up to it and k is 1, else the reply c
--   reply_to o e      the reply to e: Break where e is the event to break at, else Prune or Continue
--   counted o         one event less is to come
--   trace_visitor     the visitor that replies so
--   events log        the events of the reports, in the order reported; a log has the newest first
--   traced G o us     the walk of G from us under the orders o
--   overwritten es xs the log xs with the events es written over its front, as far as it is long enough
use Rattle.std.specs.Prelude.{ℕ, ◌-◌, Bool, false, cond, List, [], ◌∷◌, ◌++◌, Some, None, Option, ◌==◌}
use Rattle.std.specs.Option.{option_map}
use Rattle.graph.specs.Meaning.{Meaning}
use Rattle.walk.specs.declared.event.Control.{Control}
use Rattle.walk.specs.declared.event.Control.TheVariants.{Continue, Prune, Break}
use Rattle.walk.specs.declared.event.DfsEvent.{DfsEvent}
use Rattle.walk.specs.declared.event.DfsEvent.TheVariants.{Discover, TreeEdge, BackEdge, CrossForwardEdge, Finish}
use Rattle.walk.specs.Walk.{Report, State, Visitor, walk}
use Rattle.graph.specs.Among.{among}

pub record Orders : Type 0 where
  pub at : List ℕ
  pub into : List ℕ
  pub break_at : Option ℕ
  pub until : Option ℕ

abbrev pub pruned : Orders → DfsEvent → Bool
pruned o (Discover u t) = among u o.at
pruned o (TreeEdge u v) = among v o.into
pruned o (BackEdge u v) = false
pruned o (CrossForwardEdge u v) = false
pruned o (Finish u t) = false

abbrev pub break_or : Option ℕ → Option ℕ → Control ℕ → Control ℕ
break_or None k c = c
break_or (Some n) None c = c
break_or (Some n) (Some k) c = cond (k == 1) (Break n) c

abbrev pub reply_to : Orders → DfsEvent → Control ℕ
reply_to o e = break_or o.break_at o.until (cond (pruned o e) Prune Continue)

abbrev pub counted : Orders → Orders
counted o = record { at = o.at; into = o.into; break_at = o.break_at; until = option_map (λ k. k - 1) o.until }

abbrev pub trace_visitor : Visitor Orders ℕ
trace_visitor = record { reply = reply_to; next = λ o _. counted o }

unfoldable pub events : List (Report ℕ) → List DfsEvent
events [] = []
events (r ∷ log) = events log ++ (r.event ∷ [])

abbrev pub traced : Meaning → Orders → List ℕ → State Orders ℕ
traced G o us = walk trace_visitor G us o

unfoldable pub overwritten : List DfsEvent → List DfsEvent → List DfsEvent
overwritten [] xs = xs
overwritten (e ∷ es) [] = []
overwritten (e ∷ es) (x ∷ xs) = e ∷ overwritten es xs
