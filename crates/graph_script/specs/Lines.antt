-- The lines of a call script that ask about the built graph. Assumes nothing.
--
--   reads ws           the questions that take no list, by name
--   evaluator ws       what the loop query finds true: `kind` and a kind, or `nodes` and a list
--   loop_query ws      the loop query of a block and an evaluator
--   query_of ws        the question that a line's words ask
use Rattle.std.specs.Prelude.{ℕ, cond, List, [], ◌∷◌, None, codes, Option}
use Rattle.std.specs.Option.{option_map, option_zip}
use Rattle.std.specs.Str.{bytes_eq}
use Rattle.line.specs.Arguments.{of_none, of_one}
use Rattle.line.specs.Kinds.{instruction_named}
use Rattle.line.specs.Lists.{list_of}
use Rattle.line.specs.Numbers.{number_of}
use Rattle.line.specs.Rows.{Row, named, chosen}
use Rattle.graph_script.specs.Asked.{Deciding, of_kind, of_nodes, GraphAsked, block_count, edge_count, contents, leaving, entering, loop_start, tally}

abbrev pub reads : List (List ℕ) → List (Row GraphAsked)
reads ws =
    named (codes "blocks") (of_none block_count ws)
    ∷ named (codes "edges") (of_none edge_count ws)
    ∷ named (codes "block") (of_one contents number_of ws)
    ∷ named (codes "outgoing") (of_one leaving number_of ws)
    ∷ named (codes "incoming") (of_one entering number_of ws)
    ∷ named (codes "tally") (of_none tally ws)
    ∷ []

abbrev pub evaluator : List (List ℕ) → Option Deciding
evaluator [] = None
evaluator (w ∷ ws) = cond (bytes_eq w (codes "kind")) (of_one of_kind instruction_named ws) (cond (bytes_eq w (codes "nodes")) (of_one of_nodes list_of ws) None)

abbrev pub loop_query : List (List ℕ) → Option GraphAsked
loop_query [] = None
loop_query (w ∷ ws) = option_map (λ p. loop_start p.0 p.1) (option_zip (number_of w) (evaluator ws))

abbrev pub named_query : List ℕ → List (List ℕ) → Option GraphAsked
named_query w ws = cond (bytes_eq w (codes "is_infinite_loop_start")) (loop_query ws) (chosen w (reads ws))

abbrev pub query_of : List (List ℕ) → Option GraphAsked
query_of [] = None
query_of (w ∷ ws) = named_query w ws
