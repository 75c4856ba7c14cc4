use Rattle.std.proofs.Common.{rules}
use Rattle.planning.proofs.held.HeldKeys.choose.Goals as goal

-- By the one tactic that proves it: where the code is wrong no other is tried.
pub furthest-requires-clause-some : goal.furthest-requires-clause-some
furthest-requires-clause-some g c = search rules

pub returns-else-self : goal.returns-else-self
returns-else-self g c = search rules
