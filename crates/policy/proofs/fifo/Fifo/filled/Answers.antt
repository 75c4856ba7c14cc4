use Rattle.std.proofs.Common.{sym}
use Rattle.policy.proofs.CircleQueues.{filled_circle}
use Rattle.policy.proofs.fifo.Fifo.filled.Goals as goal

pub returns-clause-order : goal.returns-clause-order
returns-clause-order c = sym (filled_circle c.args.self.now)
