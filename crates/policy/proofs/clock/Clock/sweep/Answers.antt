use Rattle.std.proofs.Common.{ap, rules}
use Rattle.policy.specs.Clock.{clock_state}
use Rattle.policy.proofs.ClockSweeps.{left_goes}
use Rattle.policy.proofs.clock.Clock.sweep.Goals as goal

pub loop-self-preserved : goal.loop-self-preserved
loop-self-preserved c =
    let s = clock_state c.loop-self.self in
    let passed = c.clear_mark.ensures in
    rw (passed, ap (λ t. t.marks) passed) (left_goes s _ c.loop-self.self.within (search rules) c.loop-self.invariant)
