use Rattle.index.proofs.Homes.{scattered_is}
use Rattle.index.proofs.index.probing.scattered.Goals as goal

pub returns : goal.returns
returns c = scattered_is c.args.spread
