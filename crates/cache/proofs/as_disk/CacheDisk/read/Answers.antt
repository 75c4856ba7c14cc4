use Rattle.std.proofs.Common.{rules}
use Rattle.cache.proofs.as_disk.CacheDisk.read.Goals as goal

-- By the one tactic that proves it: where the code is wrong no other is tried.
pub returns-clause-takes : goal.returns-clause-takes
returns-clause-takes g c = search rules
