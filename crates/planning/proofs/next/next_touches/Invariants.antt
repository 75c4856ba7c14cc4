use Rattle.std.proofs.Common.{map}
use Rattle.index.specs.Slots.{map_of, SoundIndex}
use Rattle.planning.proofs.Nexts.{Looking}
use Rattle.planning.proofs.next.next_touches.Given as goal

abbrev pub invariant-loop-place : goal.invariant-loop-place
invariant-loop-place g l =
    SoundIndex g.K.Key.code g.K.Key.spread l.index ×
    Looking (map g.K.Key.code l.keys) l.next (map_of g.K.Key.code l.index) (map_of g.K.Key.code l.initial.index).places l.place
