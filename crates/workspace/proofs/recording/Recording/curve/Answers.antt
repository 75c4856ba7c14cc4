use Rattle.std.proofs.Common.{rules}
use Rattle.workspace.proofs.recording.Recording.curve.Goals as goal

-- By the one tactic that proves it: where the code is wrong no other is tried.
pub returns-clause-workspace : goal.returns-clause-workspace
returns-clause-workspace c = search rules
