use Rattle.std.proofs.Common.{rules}
use Rattle.cfg.specs.Loops.{is_backedge}
use Rattle.store.specs.View.{left}
use Rattle.cfg.proofs.Finds.{found}
use Rattle.cfg.proofs.loop_query.next_backedge.Goals as goal

pub returns : goal.returns
returns c =
    let f = found left _ is_backedge _ (λ x b f' k. search rules) _ _ c.find.new.self c.find.ensures.ran in
    record { first = f.0; after = f.1 }
