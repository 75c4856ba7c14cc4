use Rattle.std.proofs.Common.{arith}
use Rattle.std.proofs.lemmas.Grind.{common_steps}
use Rattle.trace.proofs.fault.plain.FieldFaultDisplay.fmt.Goals as goal

-- By the one tactic that proves it: where the code is wrong no other is tried.
pub returns-clause-writes : goal.returns-clause-writes
returns-clause-writes g c = grind (arith, common_steps)
