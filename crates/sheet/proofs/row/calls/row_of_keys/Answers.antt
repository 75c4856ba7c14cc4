use Rattle.std.proofs.Common.{rules}
use Rattle.sheet.proofs.row.calls.row_of_keys.Goals as goal

-- By the one tactic that proves it: where the code is wrong no other is tried.
pub returns-clause-counts : goal.returns-clause-counts
returns-clause-counts g c = search rules
