use Rattle.std.proofs.Common.{map}
use Rattle.base.specs.declared.limits.TheConstants.{MAX_FRAMES}
use Rattle.curve.specs.Recency.{keys_in, Padded}
use Rattle.curve.proofs.Measures.{Measured}
use Rattle.curve.proofs.distances.measure.Given as goal

abbrev pub invariant-loop-place : goal.invariant-loop-place
invariant-loop-place g l =
    Padded l.recency × Measured MAX_FRAMES (map g.K.Key.code l.keys) l.initial.distances (keys_in l.recency) l.distances l.place
