use Rattle.std.proofs.Common.{arith}
use Rattle.index.proofs.Searches.{stopped, passed_one_more}
use Rattle.index.proofs.index.probing.stop_between.Goals as goal

pub returns-in-Some : goal.returns-in-Some
returns-in-Some g c = (
  c.loop-place.auto.place,
  c.loop-place-test.true,
  stopped g.K.Key.code c.args.code c.args.slots.now c.args.from c.loop-place.place _ _ (omega arith) c.index-slots-place.is
      c.stop_at.ensures _ c.in-Some.is,
  c.loop-place.invariant,
)

pub loop-place-preserved : goal.loop-place-preserved
loop-place-preserved g c =
    passed_one_more g.K.Key.code c.args.code c.args.slots.now c.args.from c.loop-place.place _ _ (omega arith) c.index-slots-place.is
    c.stop_at.ensures c.in_default.is c.loop-place.invariant

pub returns : goal.returns
returns g c = λ p above below. c.loop-place.invariant p above (omega arith)
