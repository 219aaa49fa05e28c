-- Each example is computed.
use Rattle.std.proofs.Common.{refl}
use Rattle.walk.specs.Walk.{opening, scan, starts}
use Rattle.examples.proofs.table.examples_stand.Goals as goal

pub returns : goal.returns
unfolding opening scan starts
returns c = record {
  statement = record { refused = refl; accepted = refl; stands = refl };
  normal_block = record {
    refused = refl;
    none_made = refl;
    numbered = refl;
    one_edge = refl;
    reaches_harness = refl;
    not_back = refl;
    itself = refl;
  };
  unfiled_break = record { none_found = refl; unfiled = refl; marked = refl; not_reached = refl };
  drawn_break = record { found = refl; drawn = refl; five_edges = refl; reached = refl };
  labels = record { same_bytes = refl; other_bytes = refl; at_end = refl; past_end = refl };
  walk_order = record { events = refl };
  permission = record { cycle = refl; not_reached = refl };
}
