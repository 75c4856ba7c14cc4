use Rattle.std.proofs.Common.{rules}
use Rattle.disk.proofs.joined.JoinedDisk.pass_write.Goals as goal

-- By the one tactic that proves it: where the code is wrong no other is tried.
pub returns-clause-parts : goal.returns-clause-parts
returns-clause-parts g c = search rules
