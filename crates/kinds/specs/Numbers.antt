-- The numbers and names by which refusals are told. Assumes nothing.
--
--   number_of_table t   the number of the table t
--   number_of r         the number of the refusal r
--   name_of r           its name
--   written r           both as a script's answer has them; FULL with the number of the table that is short
use Rattle.std.specs.Prelude.{ℕ, List, [], ◌++◌, codes, decimal}
use Rattle.kinds.specs.declared.table.Table.{Table}
use Rattle.kinds.specs.declared.table.Table.TheVariants.{Blocks, Edges, Instructions, Contexts, Entries, Harnesses, Finalizers, Given}
use Rattle.kinds.specs.declared.refusal.Refusal.{Refusal}
use Rattle.kinds.specs.declared.refusal.Refusal.TheVariants.{NoBlock, BadLabel, NoHarness, NotTop, NoContext, Flags, Marked, Full, Short, Dirty, TwoBackedges}

abbrev pub number_of_table : Table → ℕ
number_of_table Blocks = 1
number_of_table Edges = 2
number_of_table Instructions = 3
number_of_table Contexts = 4
number_of_table Entries = 5
number_of_table Harnesses = 6
number_of_table Finalizers = 7
number_of_table Given = 8

abbrev pub number_of : Refusal → ℕ
number_of NoBlock = 1
number_of BadLabel = 2
number_of NoHarness = 3
number_of NotTop = 4
number_of NoContext = 5
number_of Flags = 6
number_of Marked = 7
number_of (Full t) = 8
number_of Short = 9
number_of Dirty = 10
number_of TwoBackedges = 11

abbrev pub name_of : Refusal → List ℕ
name_of NoBlock = codes "NO_BLOCK"
name_of BadLabel = codes "BAD_LABEL"
name_of NoHarness = codes "NO_HARNESS"
name_of NotTop = codes "NOT_TOP"
name_of NoContext = codes "NO_CONTEXT"
name_of Flags = codes "FLAGS"
name_of Marked = codes "MARKED"
name_of (Full t) = codes "FULL"
name_of Short = codes "SHORT"
name_of Dirty = codes "DIRTY"
name_of TwoBackedges = codes "TWO_BACKEDGES"

-- the table that a refusal names, after a blank
abbrev pub short_of : Refusal → List ℕ
short_of NoBlock = []
short_of BadLabel = []
short_of NoHarness = []
short_of NotTop = []
short_of NoContext = []
short_of Flags = []
short_of Marked = []
short_of (Full t) = codes " " ++ decimal (number_of_table t)
short_of Short = []
short_of Dirty = []
short_of TwoBackedges = []

abbrev pub written : Refusal → List ℕ
written r = decimal (number_of r) ++ (codes " " ++ (name_of r ++ short_of r))
