use Rattle.std.proofs.Common.{arith}
use Rattle.trace.proofs.Stamps.{stamp_whole, stamp_cut}
use Rattle.trace.proofs.fields.is_time_stamp.Goals as goal

pub returns-then-is_some : goal.returns-then-is_some
returns-then-is_some c = let cut = stamp_cut _ _ _ c.in-Some.ensures in grind (arith, cut)

pub returns-else-is_some : goal.returns-else-is_some
returns-else-is_some c = let cut = stamp_cut _ _ _ c.in-Some.ensures in grind (arith, cut)

pub returns-in-None : goal.returns-in-None
returns-in-None c = grind (arith, stamp_whole)
