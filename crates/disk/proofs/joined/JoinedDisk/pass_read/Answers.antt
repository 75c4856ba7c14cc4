use Rattle.std.proofs.Common.{rules}
use Rattle.disk.proofs.joined.JoinedDisk.pass_read.Goals as goal

-- By the one tactic that proves it: where the code is wrong no other is tried.
pub returns-then-sector-first-clause-answers : goal.returns-then-sector-first-clause-answers
returns-then-sector-first-clause-answers g c = search rules

pub returns-then-sector-first-clause-parts : goal.returns-then-sector-first-clause-parts
returns-then-sector-first-clause-parts g c = search rules

pub returns-then-sector-first-clause-fills : goal.returns-then-sector-first-clause-fills
returns-then-sector-first-clause-fills g c = search rules
