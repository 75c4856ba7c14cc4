-- The index stays sound from call to call.
use Rattle.index.specs.Slots.{SoundIndex}
use Rattle.cases.proofs.index_model.count_refused.Given as goal

abbrev pub invariant-loop-number : goal.invariant-loop-number
invariant-loop-number g l = SoundIndex g.K.Key.code g.K.Key.spread l.index
