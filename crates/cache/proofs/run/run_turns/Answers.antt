use Rattle.std.proofs.Common.{rules}
use Rattle.cache.proofs.run.run_turns.Goals as goal

-- By the one tactic that proves it: where the code is wrong no other is tried.
pub returns-clause-runs : goal.returns-clause-runs
returns-clause-runs g c = search rules
