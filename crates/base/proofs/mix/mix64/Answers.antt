use Rattle.std.proofs.Common.{rules}
use Rattle.base.specs.Keys.{mixed}
use Rattle.base.proofs.mix.mix64.Goals as goal

pub returns : goal.returns
unfolding mixed
returns c = search rules
