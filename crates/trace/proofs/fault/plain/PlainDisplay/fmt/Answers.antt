use Rattle.std.proofs.Common.{rules}
use Rattle.trace.proofs.fault.plain.PlainDisplay.fmt.Goals as goal

-- By the one tactic that proves it: where the code is wrong no other is tried.
pub returns-in-Line-FieldCount-clause-writes : goal.returns-in-Line-FieldCount-clause-writes
returns-in-Line-FieldCount-clause-writes g c = search rules
