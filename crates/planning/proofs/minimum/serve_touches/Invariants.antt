use Rattle.std.proofs.Common.{◌≡◌, map, length}
use Rattle.index.specs.Slots.{map_of, SoundIndex}
use Rattle.planning.proofs.Along.{Serving-along}
use Rattle.planning.proofs.minimum.serve_touches.Given as goal

abbrev pub invariant-loop-place : goal.invariant-loop-place
invariant-loop-place g l =
    SoundIndex g.K.Key.code g.K.Key.spread l.frames.index ×
    (Serving-along (length l.initial.frames.held.now) (map g.K.Key.code l.keys) l.next l.frames.held.now
    (map_of g.K.Key.code l.frames.index) (map_of g.K.Key.code l.initial.frames.index).places
    l.initial.serving l.serving l.fetches l.frames.filled l.place ×
    (length l.frames.held.now ≡ length l.initial.frames.held.now))
