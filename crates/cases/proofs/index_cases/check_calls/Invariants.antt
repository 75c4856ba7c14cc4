-- The index stays sound from call to call.
use Rattle.index.specs.Slots.{SoundIndex}
use Rattle.cases.proofs.index_cases.check_calls.Given as goal

abbrev pub invariant-loop-place : goal.invariant-loop-place
invariant-loop-place g l = SoundIndex g.K.Key.code g.K.Key.spread l.index
