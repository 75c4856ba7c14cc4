use Rattle.std.proofs.Common.{◌≡◌, map, take}
use Rattle.base.specs.Keys.{volume_code}
use Rattle.trace.specs.Touches.{sectors_from}
use Rattle.trace.proofs.touches.write_touches.Given as goal

abbrev pub invariant-loop-i : goal.invariant-loop-i
invariant-loop-i l = map volume_code (take l.i l.places) ≡ sectors_from l.access.asu l.access.lba l.i
