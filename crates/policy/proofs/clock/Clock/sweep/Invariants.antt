use Rattle.std.proofs.Common.{length}
use Rattle.policy.specs.Clock.{clock_state, sweep}
use Rattle.policy.proofs.ClockSweeps.{marked, Left}
use Rattle.policy.proofs.clock.Clock.sweep.Given as goal

abbrev pub invariant-loop-self : goal.invariant-loop-self
invariant-loop-self l = Left (clock_state l.self) (sweep (length l.initial.self.marks.items) (clock_state l.initial.self))

abbrev pub decreases-loop-self : goal.decreases-loop-self
decreases-loop-self l = marked l.self.marks.items
