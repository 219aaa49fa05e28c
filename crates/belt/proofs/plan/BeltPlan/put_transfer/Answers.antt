-- One bit of one row is written.
use Rattle.std.proofs.Common.{rules}
use Rattle.belt.proofs.OneBit.{transfer_is}
use Rattle.belt.proofs.plan.BeltPlan.put_transfer.Goals as goal

pub returns-clause-only : goal.returns-clause-only
returns-clause-only c = λ _.
    transfer_is c.args.self.now c.args.from c.args.to c.args.set (search rules) (search rules) (search rules) c.put_bit.result c.put_bit.ensures
