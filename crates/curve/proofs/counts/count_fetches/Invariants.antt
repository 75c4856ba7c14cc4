use Rattle.base.specs.declared.limits.TheConstants.{MAX_FRAMES}
use Rattle.curve.proofs.Tallies.{CountsEqual, CountsFar}
use Rattle.curve.proofs.counts.count_fetches.Given as goal

abbrev pub invariant-loop-distance : goal.invariant-loop-distance
invariant-loop-distance l = CountsEqual MAX_FRAMES l.distances l.distance-index l.counts

abbrev pub invariant-loop-place : goal.invariant-loop-place
invariant-loop-place l = CountsFar MAX_FRAMES l.distances l.counts l.place
