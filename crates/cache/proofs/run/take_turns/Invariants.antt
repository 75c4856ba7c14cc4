use Rattle.cache.specs.Reading.{Safe}
use Rattle.cache.proofs.Turnwise.{Taking}
use Rattle.cache.proofs.run.take_turns.Given as goal

abbrev pub invariant-loop-turn : goal.invariant-loop-turn
invariant-loop-turn g l =
    Safe g.D.Disk g.P.Policy l.cache ×
    Taking g.D.Disk g.P.Policy l.initial.cache l.initial.turns l.turns l.turn-index l.cache
