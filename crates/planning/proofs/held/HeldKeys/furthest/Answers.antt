use Rattle.std.proofs.Common.{arith}
use Rattle.std.proofs.lemmas.Grind.{common_steps}
use Rattle.planning.proofs.held.HeldKeys.furthest.Goals as goal

-- By the one tactic that proves it: where the code is wrong no other is tried.
pub loop-frame-preserved : goal.loop-frame-preserved
loop-frame-preserved g c = grind (arith, common_steps)
