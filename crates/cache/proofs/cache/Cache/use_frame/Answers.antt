use Rattle.std.proofs.Common.{rules}
use Rattle.cache.proofs.cache.Cache.use_frame.Goals as goal

-- By the one tactic that proves it: where the code is wrong no other is tried.
pub returns-clause-after : goal.returns-clause-after
returns-clause-after g c = search rules
