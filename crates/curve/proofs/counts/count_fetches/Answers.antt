use Rattle.std.proofs.Common.{refl, arith}
use Rattle.base.specs.declared.limits.TheConstants.{MAX_FRAMES}
use Rattle.curve.proofs.Tallies.{counted_first, counted_none, counted_some, summed_last, summed_more, summed_all}
use Rattle.curve.proofs.counts.count_fetches.Goals as goal
use Rattle.curve.proofs.counts.count_fetches.Goals.{in-Some, in_default}

pub loop-distance-init : goal.loop-distance-init
loop-distance-init c = counted_first MAX_FRAMES c.args.distances.now

pub loop-distance-preserved : goal.loop-distance-preserved
loop-distance-preserved c =
    let ds = c.args.distances.now in
    let i = c.loop-distance.distance-index in
    let s = c.loop-distance.invariant in
    let low = c.loop-distance-test.true in
    let most = c.requires.most i 0 low in
    elim c.match-checked_sub.branch [
      | in-Some w ↦
          let e = w.in-Some.ensures in
          rw w.counts-is (counted_some MAX_FRAMES ds i c.loop-distance.counts low s w.in-Some.place _
          (omega (arith, e.0, e.1)) (omega (arith, e.0, e.1, most)) refl)
      | in_default w ↦
          let none = w.in_default.ensures in
          rw w.counts-is (counted_none MAX_FRAMES ds i c.loop-distance.counts low s (grind (arith, none)))
    ]

pub loop-place-init : goal.loop-place-init
loop-place-init c =
    summed_last MAX_FRAMES c.args.distances.now c.loop-distance.distance-index c.loop-distance.counts c.requires.most
    (omega (arith, c.loop-distance-test.false)) c.loop-distance.invariant

pub loop-place-preserved : goal.loop-place-preserved
loop-place-preserved c =
    summed_more MAX_FRAMES c.args.distances.now c.loop-place.counts c.loop-place.place c.loop-place.invariant
    (omega (arith, c.loop-place-test.true)) (omega (arith, c.loop-place.auto.place))

pub returns : goal.returns
returns c =
    summed_all c.args.distances.now c.loop-place.counts c.loop-place.place c.loop-place.invariant (omega (arith, c.loop-place-test.false))
