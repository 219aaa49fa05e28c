-- No Backedge comes in.
use Rattle.std.proofs.Common.{sym, ap, ◌∙◌, rules}
use Rattle.cfg.specs.Loops.{first_fit, is_backedge}
use Rattle.cfg.specs.View.{graph_of}
use Rattle.cfg.proofs.Seconds.{no_loop}
use Rattle.cfg.proofs.control_flow_graph.ControlFlowGraph.is_infinite_loop_start.Goals as goal

pub returns-in_default : goal.returns-in_default
returns-in_default g c =
    no_loop (g.E.EvalConstCondition.holds c.args.evaluator.now) c.args.node (graph_of c.args.self.now)
    (search rules)
    (ap (first_fit is_backedge) (sym c.edges_at-incoming.ensures) ∙ sym c.next_backedge.ensures.first ∙ c.in_default.is)
