use Rattle.std.proofs.Common.{rules}
use Rattle.curve.proofs.point.PointDisplay.fmt.Goals as goal

-- By the one tactic that proves it: where the code is wrong no other is tried.
pub returns-clause-writes : goal.returns-clause-writes
returns-clause-writes g c = search rules
