use Rattle.std.proofs.Common.{rules}
use Rattle.workspace.proofs.Workspace.lists.Goals as goal

-- By the one tactic that proves it: where the code is wrong no other is tried.
pub returns-clause-next : goal.returns-clause-next
returns-clause-next g c = search rules
