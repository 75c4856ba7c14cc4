use Rattle.std.proofs.Common.{◌<◌, ◌≤◌, map, length, refl, ◌∙◌, subst, arith}
use Rattle.disk.specs.Meaning.{Tallied}
use Rattle.disk.specs.Turns.{asked_in}
use Rattle.disk.proofs.Turns.{running_more, running_all, along_is}
use Rattle.disk.proofs.serve.take_turns.Goals as goal

pub loop-turn-init : goal.loop-turn-init
loop-turn-init g c = (c.requires, record { replaced = record { rest = refl; long = refl }; answered = tt; after = refl })

pub loop-turn-preserved : goal.loop-turn-preserved
loop-turn-preserved g c =
    let h : c.loop-turn.turn-index < length c.loop-turn.turns = omega arith in (
      c.take_turn.ensures.kept,
      running_more _ _ _ _ _ c.loop-turn.invariant.1 c.turn-item.result _ c.take_turn.new.turn _ h refl c.take_turn.ensures.done
          c.take_turn.ensures.after,
    )

pub returns : goal.returns
returns g c =
    let h : length c.args.turns.now ≤ c.loop-turn.turn-index = omega arith in
    let q = running_all _ _ _ _ _ c.loop-turn.invariant.1 h in
    let m = g.D.Disk.meaning c.args.disk.now in
    let us = c.args.turns.now in
    record {
      kept = c.loop-turn.invariant.0;
      answers = q.0;
      after = λ bounded. q.1 ∙ along_is m (map asked_in us) (subst Tallied q.1 bounded);
    }
