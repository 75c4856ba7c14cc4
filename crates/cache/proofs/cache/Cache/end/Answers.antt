use Rattle.std.proofs.Common.{rules}
use Rattle.cache.proofs.cache.Cache.end.Goals as goal

-- By the one tactic that proves it: where the code is wrong no other is tried.
pub returns-clause-ended : goal.returns-clause-ended
returns-clause-ended g c = search rules
