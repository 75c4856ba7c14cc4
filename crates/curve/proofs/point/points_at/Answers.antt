use Rattle.std.proofs.Common.{refl, arith}
use Rattle.base.specs.declared.limits.TheConstants.{MAX_FRAMES}
use Rattle.curve.proofs.Numbered.{numbered_more}
use Rattle.curve.proofs.point.points_at.Goals as goal

pub loop-place-preserved : goal.loop-place-preserved
loop-place-preserved c =
    numbered_more MAX_FRAMES c.args.fetches.now c.loop-place.points c.loop-place.place _ c.loop-place.invariant
    c.loop-place-test.true (omega (arith, c.told-fetches, c.loop-place-test.true)) (omega arith) refl
