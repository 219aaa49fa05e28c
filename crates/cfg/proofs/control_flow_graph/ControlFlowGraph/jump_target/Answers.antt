use Rattle.std.proofs.Common.{rules}
use Rattle.book.specs.Ledger.{is_jump}
use Rattle.store.specs.View.{left}
use Rattle.cfg.proofs.Finds.{first_read, found}
use Rattle.cfg.proofs.control_flow_graph.ControlFlowGraph.jump_target.Goals as goal

pub returns : goal.returns
returns c =
    let f = found left _ is_jump _ (λ x b f' k. search rules) _ _ c.find.new.self c.find.ensures.ran in
    let n = first_read left c.edges_at.result c.next-newest.new.self _ c.next-newest.ensures.steps in
    search (rules, f.0, n)
