use Rattle.std.proofs.Common.{◌≡◌, ℕ, Option, sum_by}
use Rattle.index.specs.declared.slot.Entry.{Entry}
use Rattle.index.proofs.Gaps.{Gap}
use Rattle.index.proofs.Distances.{left}
use Rattle.index.proofs.index.probing.vacate.Given as goal

abbrev pub invariant-loop-hole : goal.invariant-loop-hole
invariant-loop-hole g l =
    Gap g.K.Key.spread l.places l.slots l.hole l.last ×
    ((f : Option (Entry g.row.K.Denot) → ℕ) → sum_by f l.slots ≡ sum_by f l.initial.slots)

abbrev pub decreases-loop-hole : goal.decreases-loop-hole
decreases-loop-hole g l = left g.K.Key.spread l.places l.slots l.hole l.last
