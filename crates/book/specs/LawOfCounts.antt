-- The law of the counts: what holds of every book and its ledger, after any list of calls. Assumes nothing.
--
--   entries_at i cs       the entries of the open context of the number i, none where that is not open
--   jump_at es x          1 where the edge of the number x is a Jump edge, else 0
--   EdgeStands es b f     where the fate f says drawn, the edge of that number is a Jump edge from the block b to that target
--   Law k l               the book k and the ledger l agree
use Rattle.std.specs.Prelude.{◌≡◌, ℕ, zero, suc, ◌+◌, ◌≤◌, cond, List, [], ◌∷◌, length, Some, count_by, ◌==◌, nat_eq}
use Rattle.std.specs.List.{slice_get}
use Rattle.book.specs.Book.{Book, new_book, run}
use Rattle.book.specs.Ledger.{Fate, Unfiled, Waiting, Drawn, Untargeted, Given, Ledger, is_unfiled, is_waiting, is_drawn, is_untargeted, drawn_as, count_fate, waiting_in, is_jump, ledger_run, new_ledger}
use Rattle.book.specs.declared.call.Call.{Call}
use Rattle.contexts.specs.Contexts.{Context, Entry, waiting_count}
use Rattle.kinds.specs.declared.edge.Edge.{Edge}
use Rattle.kinds.specs.declared.edge.EdgeType.TheVariants as edge

-- the entries of the open context of a number; none where that is not open
abbrev pub entries_at : ℕ → List Context → List Entry
entries_at i [] = []
entries_at i (c ∷ cs) = cond (i == length cs) c.entries (entries_at i cs)

-- 1 where the edge of a number is a Jump edge, else 0
abbrev pub jump_at : List Edge → ℕ → ℕ
jump_at [] x = 0
jump_at (e ∷ es) zero = cond (is_jump e.kind) 1 0
jump_at (e ∷ es) (suc x) = jump_at es x

-- one that is drawn is a Jump edge of the graph, from its own block to its target
abbrev pub EdgeStands : List Edge → ℕ → Fate → Type 0
EdgeStands es b Unfiled = Unit {0}
EdgeStands es b (Waiting i) = Unit {0}
EdgeStands es b (Drawn x t) = slice_get es x ≡ Some (record { source = b; target = t; kind = edge.Jump })
EdgeStands es b Untargeted = Unit {0}

abbrev pub EdgesStand : List Edge → List Given → Type 0
EdgesStand es [] = Unit {0}
EdgesStand es (g ∷ gs) = EdgeStands es g.block g.fate × EdgesStand es gs

pub record Law (k : Book) (l : Ledger) : Type 0 where
  -- the counts of the book are counts over the ledger, and every one given has one of the four fates
  pub given : k.given ≡ length l.given
  pub unfiled : k.unfiled ≡ count_fate is_unfiled l.given
  pub waiting : waiting_count k.contexts ≡ count_fate is_waiting l.given
  pub drawn : k.drawn ≡ count_fate is_drawn l.given
  pub untargeted : k.untargeted ≡ count_fate is_untargeted l.given
  pub total : k.given ≡ k.unfiled + waiting_count k.contexts + k.drawn + k.untargeted
  -- an open context's entries are those that wait in it, in the order given
  pub entries : (i : ℕ) → entries_at i k.contexts ≡ waiting_in i l.given
  -- each that is drawn stands in the graph
  pub edges_stand : EdgesStand k.blocks.graph.edges l.given
  -- an edge is a Jump edge where one of them is drawn as it, or add_edge took it, and only there; never twice
  pub jumps_once : (x : ℕ) → count_fate (drawn_as x) l.given + count_by (nat_eq x) l.taken ≡ jump_at k.blocks.graph.edges x

-- from a new builder, whatever the text and the calls
abbrev pub EveryRunKeepsTheLaw : Type 0
EveryRunKeepsTheLaw = (text : List ℕ) (cs : List Call) → Law (run cs (new_book text)) (ledger_run cs (new_book text) new_ledger)

-- no two of them are drawn as one edge
abbrev pub Different : Ledger → Type 0
Different l = (x : ℕ) → count_fate (drawn_as x) l.given ≤ 1
