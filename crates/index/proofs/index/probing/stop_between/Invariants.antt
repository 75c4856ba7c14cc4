use Rattle.index.specs.Probes.{Passed}
use Rattle.index.proofs.index.probing.stop_between.Given as goal

abbrev pub invariant-loop-place : goal.invariant-loop-place
invariant-loop-place g l = Passed g.K.Key.code l.slots l.code l.from l.place
