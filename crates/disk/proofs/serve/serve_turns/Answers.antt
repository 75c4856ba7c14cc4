use Rattle.std.proofs.Common.{rules}
use Rattle.disk.proofs.serve.serve_turns.Goals as goal

-- By the one tactic that proves it: where the code is wrong no other is tried.
pub returns-clause-answers : goal.returns-clause-answers
returns-clause-answers g c = search rules

pub returns-clause-after : goal.returns-clause-after
returns-clause-after g c = search rules
