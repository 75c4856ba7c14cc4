use Rattle.std.proofs.Common.{rules}
use Rattle.trace.proofs.fields.Fields.access.Goals as goal

-- By the one tactic that proves it: where the code is wrong no other is tried.
pub returns-then-is_none : goal.returns-then-is_none
returns-then-is_none c = search rules

pub returns-in_err-sectors : goal.returns-in_err-sectors
returns-in_err-sectors c = search rules

pub returns-in_err-check_time_stamp : goal.returns-in_err-check_time_stamp
returns-in_err-check_time_stamp c = search rules
