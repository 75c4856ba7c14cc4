-- The cache stays safe from turn to turn.
use Rattle.cache.specs.Reading.{Safe}
use Rattle.bench.proofs.turns.write_turns.Given as goal

abbrev pub invariant-loop-turn : goal.invariant-loop-turn
invariant-loop-turn g l = Safe g.D.Disk g.P.Policy l.cache
