use Rattle.std.proofs.Common.{◌<◌, length, refl, arith}
use Rattle.cache.proofs.Turnwise.{taking_none, taking_more, taking_all, ran}
use Rattle.cache.proofs.run.take_turns.Goals as goal

pub loop-turn-init : goal.loop-turn-init
loop-turn-init g c = (c.requires, taking_none g.D.Disk g.P.Policy _ _)

pub loop-turn-preserved : goal.loop-turn-preserved
loop-turn-preserved g c =
    let h : c.loop-turn.turn-index < length c.loop-turn.turns = omega arith in (
      c.take_turn.ensures.kept,
      taking_more g.D.Disk g.P.Policy _ _ _ _ _ c.loop-turn.invariant.1 c.turn-item.result _ c.take_turn.new.turn _ h refl
          c.take_turn.ensures.takes,
    )

pub returns-clause-runs : goal.returns-clause-runs
returns-clause-runs g c s begins =
    let all = taking_all g.D.Disk g.P.Policy _ _ _ _ _ c.loop-turn.invariant.1 (omega arith) in
    ran g.D.Disk g.P.Policy g.met.P.Policy.conservative s _ _ _ _ _ begins all
