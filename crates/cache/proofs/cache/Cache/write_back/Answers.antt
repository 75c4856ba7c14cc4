use Rattle.std.proofs.Common.{rules}
use Rattle.cache.proofs.cache.Cache.write_back.Goals as goal

-- By the one tactic that proves it: where the code is wrong no other is tried.
pub returns-then-held-clause-after : goal.returns-then-held-clause-after
returns-then-held-clause-after g c = search rules
