-- One bit of the locks is written.
use Rattle.std.proofs.Common.{rules}
use Rattle.belt.proofs.OneBit.{lock_is}
use Rattle.belt.proofs.plan.BeltPlan.put_lock.Goals as goal

pub returns-clause-only : goal.returns-clause-only
returns-clause-only c = λ _. lock_is c.args.self.now c.args.segment c.args.set c.put_bit-self.result (search rules) c.put_bit-self.ensures
