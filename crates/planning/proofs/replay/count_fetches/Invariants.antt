-- The policy, the count, the index and the held keys are those of the frame machine after the touches so far.
use Rattle.std.proofs.Common.{◌≡◌, map, length}
use Rattle.index.specs.Slots.{map_of, SoundIndex}
use Rattle.planning.specs.Replay.{idle}
use Rattle.planning.proofs.Replays.{Replaying}
use Rattle.planning.proofs.replay.count_fetches.Given as goal

abbrev pub invariant-loop-place : goal.invariant-loop-place
invariant-loop-place g l =
    SoundIndex g.K.Key.code g.K.Key.spread l.frames.index ×
    (Replaying g.P.Policy.rules (idle (g.P.Policy.model l.initial.policy)) (map g.K.Key.code l.keys) l.frames.held.now
    (map_of g.K.Key.code l.frames.index) (map_of g.K.Key.code l.initial.frames.index).places l.place
    (g.P.Policy.model l.policy) l.fetches l.frames.filled ×
    (length l.frames.held.now ≡ length l.initial.frames.held.now))
