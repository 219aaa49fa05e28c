use Rattle.std.proofs.Common.{rules}
use Rattle.block_builder.specs.BlockState.{above_harness}
use Rattle.block_builder.proofs.Lasts.{last_under}
use Rattle.block_builder.proofs.block_builder.BlockBuilder.top_harness.Goals as goal

pub returns-clause-known : goal.returns-clause-known
returns-clause-known c =
    let s = c.args.self.now in
    last_under above_harness s.error_path.items c.copied.result _ (search rules) s.harnesses_known
