use Rattle.std.proofs.Common.{rules}
use Rattle.workspace.proofs.recording.Recording.plan.Goals as goal

-- By the one tactic that proves it: where the code is wrong no other is tried.
pub returns-clause-answer : goal.returns-clause-answer
returns-clause-answer c = search rules
