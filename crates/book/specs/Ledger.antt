-- What became of each break and continue, over any list of calls. Assumes nothing.
--
--   Fate             of one break or continue: unfiled (no context took it), waiting in the open context of a number,
--                    drawn as the edge of a number to a target, or untargeted (resolved while its target was not marked)
--   Given            a break or a continue that was accepted: its kind, the block that it leaves from, and its fate
--   Ledger           all of them in the order given, and the numbers of the Jump edges that add_edge took
--   new_ledger       the ledger of a new builder
--   recorded k c l   the ledger after an accepted call on the book k; ledger_step: after any call; ledger_run: after a list of calls
use Rattle.std.specs.Prelude.{ℕ, suc, Bool, true, false, cond, List, [], ◌∷◌, ◌++◌, length, Some, None, count_by, Option, ◌==◌}
use Rattle.book.specs.Book.{Book, context_for, refusal, step}
use Rattle.book.specs.declared.call.Call.{Call}
use Rattle.book.specs.declared.call.Call.TheVariants as call
use Rattle.contexts.specs.Contexts.{Context, Entry, target_of, top_number}
use Rattle.kinds.specs.Replies.{after}
use Rattle.kinds.specs.declared.context.EntryKind.{EntryKind}
use Rattle.kinds.specs.declared.edge.EdgeType.{EdgeType}
use Rattle.kinds.specs.declared.edge.EdgeType.TheVariants as edge

pub data Fate : Type 0 where
  Unfiled : Fate
  Waiting : ℕ → Fate
  Drawn : ℕ → ℕ → Fate
  Untargeted : Fate

pub record Given : Type 0 where
  pub kind : EntryKind
  pub block : ℕ
  pub fate : Fate

pub record Ledger : Type 0 where
  pub given : List Given
  pub taken : List ℕ

abbrev pub is_unfiled : Fate → Bool
is_unfiled Unfiled = true
is_unfiled (Waiting i) = false
is_unfiled (Drawn e t) = false
is_unfiled Untargeted = false

abbrev pub is_waiting : Fate → Bool
is_waiting Unfiled = false
is_waiting (Waiting i) = true
is_waiting (Drawn e t) = false
is_waiting Untargeted = false

abbrev pub is_drawn : Fate → Bool
is_drawn Unfiled = false
is_drawn (Waiting i) = false
is_drawn (Drawn e t) = true
is_drawn Untargeted = false

abbrev pub is_untargeted : Fate → Bool
is_untargeted Unfiled = false
is_untargeted (Waiting i) = false
is_untargeted (Drawn e t) = false
is_untargeted Untargeted = true

abbrev pub waits_in : ℕ → Fate → Bool
waits_in i Unfiled = false
waits_in i (Waiting j) = i == j
waits_in i (Drawn e t) = false
waits_in i Untargeted = false

abbrev pub drawn_as : ℕ → Fate → Bool
drawn_as x Unfiled = false
drawn_as x (Waiting j) = false
drawn_as x (Drawn e t) = x == e
drawn_as x Untargeted = false

-- how many have a fate
abbrev pub count_fate : (Fate → Bool) → List Given → ℕ
count_fate p gs = count_by (λ g. p g.fate) gs

-- those that wait in a context, in the order given
abbrev pub waiting_in : ℕ → List Given → List Entry
waiting_in i [] = []
waiting_in i (g ∷ gs) = cond (waits_in i g.fate) (record { kind = g.kind; block = g.block } ∷ waiting_in i gs) (waiting_in i gs)

-- the fate of one given now, in the context found or in none
abbrev pub first_fate : Option ℕ → Fate
first_fate None = Unfiled
first_fate (Some i) = Waiting i

abbrev pub given_now : EntryKind → ℕ → Option ℕ → Ledger → Ledger
given_now j b o l = record { given = l.given ++ record { kind = j; block = b; fate = first_fate o } ∷ []; taken = l.taken }

-- the fate at a resolve, where x is the number of the next edge, and the number of the one after
abbrev pub resolved_fate : Option ℕ → ℕ → Fate
resolved_fate None x = Untargeted
resolved_fate (Some t) x = Drawn x t

abbrev pub next_edge : Option ℕ → ℕ → ℕ
next_edge None x = x
next_edge (Some t) x = suc x

-- those that wait in the context c, of number i, are resolved in the order given
abbrev pub resolved_in : Context → ℕ → ℕ → List Given → List Given
resolved_in c i x [] = []
resolved_in c i x (g ∷ gs) =
    cond (waits_in i g.fate)
    (record { kind = g.kind; block = g.block; fate = resolved_fate (target_of g.kind c) x } ∷ resolved_in c i (next_edge (target_of g.kind c) x) gs)
    (g ∷ resolved_in c i x gs)

abbrev pub top_resolved : List Context → ℕ → Ledger → Ledger
top_resolved [] x l = l
top_resolved (c ∷ cs) x l = record { given = resolved_in c (length cs) x l.given; taken = l.taken }

abbrev pub is_jump : EdgeType → Bool
is_jump edge.Jump = true
is_jump edge.Normal = false
is_jump edge.Backedge = false
is_jump edge.NewFunction = false
is_jump edge.Finalize = false
is_jump (edge.Error k) = false
is_jump edge.Unreachable = false
is_jump edge.Join = false

abbrev pub edge_taken : EdgeType → ℕ → Ledger → Ledger
edge_taken e x l = record { given = l.given; taken = cond (is_jump e) (l.taken ++ x ∷ []) l.taken }

-- what an accepted call does to the ledger
abbrev pub recorded : Book → Call → Ledger → Ledger
recorded k (call.AttachErrorHarness e) l = l
recorded k (call.ReleaseErrorHarness b) l = l
recorded k call.AttachFinalizer l = l
recorded k (call.ReleaseFinalizer b) l = l
recorded k call.PushFinalizationStack l = l
recorded k call.PopFinalizationStack l = l
recorded k call.NewBasicBlockNormal l = l
recorded k call.NewBasicBlockFunction l = l
recorded k call.Current l = l
recorded k (call.SetCurrent b) l = l
recorded k (call.MarkAsReachable b) l = l
recorded k (call.MarkAsUnreachable b) l = l
recorded k (call.AddEdge a b e) l = edge_taken e (length k.blocks.graph.edges) l
recorded k (call.PushStatement n) l = l
recorded k (call.EnterStatement n) l = l
recorded k (call.PushReturn r n) l = l
recorded k call.PushImplicitReturn l = l
recorded k (call.AppendIteration n i) l = l
recorded k (call.AppendConditionTo b n) l = l
recorded k call.AppendUnreachable l = l
recorded k (call.AppendThrow n) l = l
recorded k (call.Append j n b) l = given_now j k.blocks.current (context_for j b k) l
recorded k (call.New b f) l = l
recorded k (call.Default b) l = l
recorded k (call.NewFunction b) l = l
recorded k (call.File j b) l = given_now j k.blocks.current (context_for j b k) l
recorded k (call.FileOnTop j) l = given_now j k.blocks.current (top_number k.contexts) l
recorded k (call.Mark j b t) l = l
recorded k (call.MarkOnTop j t) l = l
recorded k (call.Allow j) l = l
recorded k call.Resolve l = top_resolved k.contexts (length k.blocks.graph.edges) l
recorded k (call.ResolveExpect e) l = top_resolved k.contexts (length k.blocks.graph.edges) l
recorded k call.ResolveWithUpperLabel l = top_resolved k.contexts (length k.blocks.graph.edges) l
recorded k call.Tally l = l

abbrev pub ledger_step : Book → Call → Ledger → Ledger
ledger_step k c l = after (refusal k c) l (recorded k c l)

abbrev pub ledger_run : List Call → Book → Ledger → Ledger
ledger_run [] k l = l
ledger_run (c ∷ cs) k l = ledger_run cs (step k c) (ledger_step k c l)

abbrev pub new_ledger : Ledger
new_ledger = record { given = []; taken = [] }
