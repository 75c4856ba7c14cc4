use Rattle.std.proofs.Common.{arith}
use Rattle.std.proofs.lemmas.Grind.{common_steps}
use Rattle.trace.proofs.reader.calls.without_return.Goals as goal

-- By the one tactic that proves it: where the code is wrong no other is tried.
pub returns : goal.returns
returns c = grind (arith, common_steps)
