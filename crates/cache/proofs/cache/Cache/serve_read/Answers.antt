use Rattle.std.proofs.Common.{rules}
use Rattle.cache.proofs.cache.Cache.serve_read.Goals as goal

-- By the one tactic that proves it: where the code is wrong no other is tried.
pub returns-clause-after : goal.returns-clause-after
returns-clause-after g c = search rules

pub returns-clause-fills : goal.returns-clause-fills
returns-clause-fills g c = search rules
