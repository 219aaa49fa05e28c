-- One write adds the top.
use Rattle.visit.proofs.Holding.{held_push}
use Rattle.visit.proofs.stack.Stack.push.Goals as goal

pub returns-clause-held : goal.returns-clause-held
returns-clause-held g c = held_push c.args.self.now.slots.now c.args.self.now.used c.args.x c.requires
