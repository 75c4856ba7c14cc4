-- The best of the frames looked at so far.
use Rattle.std.proofs.Common.{◌≡◌, max}
use Rattle.planning.specs.Chosen.{LowestFurthest, next_of}
use Rattle.planning.proofs.held.HeldKeys.furthest.Given as goal

abbrev pub invariant-loop-frame : goal.invariant-loop-frame
invariant-loop-frame g l = (l.latest ≡ next_of l.next l.self.held.now l.best) ×
    LowestFurthest (max l.frame 1) (next_of l.next l.self.held.now) l.best
