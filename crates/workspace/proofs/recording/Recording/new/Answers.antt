use Rattle.std.proofs.Common.{rules}
use Rattle.workspace.proofs.recording.Recording.new.Goals as goal

-- By the one tactic that proves it: where the code is wrong no other is tried.
pub returns-clause-lent : goal.returns-clause-lent
returns-clause-lent c = search rules
