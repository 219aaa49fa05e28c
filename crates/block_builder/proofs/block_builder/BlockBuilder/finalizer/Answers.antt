use Rattle.std.proofs.Common.{rules}
use Rattle.block_builder.proofs.Lasts.{finalizer_under}
use Rattle.block_builder.proofs.block_builder.BlockBuilder.finalizer.Goals as goal

pub returns-clause-known : goal.returns-clause-known
returns-clause-known c =
    let s = c.args.self.now in
    finalizer_under s.finalizers.items _ _ (search rules) s.finalizers_known
