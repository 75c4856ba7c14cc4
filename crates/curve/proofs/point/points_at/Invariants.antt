use Rattle.base.specs.declared.limits.TheConstants.{MAX_FRAMES}
use Rattle.curve.proofs.Numbered.{Numbered}
use Rattle.curve.proofs.point.points_at.Given as goal

abbrev pub invariant-loop-place : goal.invariant-loop-place
invariant-loop-place l = Numbered MAX_FRAMES l.fetches l.points l.place
