-- A reply as control flow. Assumes nothing.
--
--   flow_of c   whether the walk follows what it told of, or the value that it ends with
use Rattle.std.specs.Prelude.{Bool, true, false}
use Rattle.std.specs.declared.ops.ControlFlow.{ControlFlow}
use Rattle.std.specs.declared.ops.ControlFlow.TheVariants as flow
use Rattle.walk.specs.declared.event.Control.{Control}
use Rattle.walk.specs.declared.event.Control.TheVariants.{Continue, Prune, Break}

abbrev pub flow_of : {B : Type 0} → Control B → ControlFlow B Bool
flow_of Continue = flow.Continue true
flow_of Prune = flow.Continue false
flow_of (Break x) = flow.Break x
