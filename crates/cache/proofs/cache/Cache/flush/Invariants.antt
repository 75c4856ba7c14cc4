use Rattle.std.proofs.Common.{◌≡◌}
use Rattle.cache.specs.Reading.{view}
use Rattle.cache.proofs.Flushes.{flushed_view}
use Rattle.cache.proofs.cache.Cache.flush.Given as goal

abbrev pub invariant-loop-place : goal.invariant-loop-place
invariant-loop-place g l =
    g.D.Disk.sound l.self.below ×
    (view g.D.Disk g.P.Policy l.self ≡ flushed_view (view g.D.Disk g.P.Policy l.initial.self) l.place)
