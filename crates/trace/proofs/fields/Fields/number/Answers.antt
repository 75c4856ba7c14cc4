use Rattle.std.proofs.Common.{rules}
use Rattle.trace.proofs.fields.Fields.number.Goals as goal

-- By the one tactic that proves it: where the code is wrong no other is tried.
pub returns-in_default : goal.returns-in_default
returns-in_default c = search rules
