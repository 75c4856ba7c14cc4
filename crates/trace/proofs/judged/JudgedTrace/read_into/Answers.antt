use Rattle.std.proofs.Common.{rules}
use Rattle.trace.proofs.judged.JudgedTrace.read_into.Goals as goal

-- By the one tactic that proves it: where the code is wrong no other is tried.
pub returns-then-self-keys-clause-answer : goal.returns-then-self-keys-clause-answer
returns-then-self-keys-clause-answer c = search rules

pub returns-then-self-keys-clause-keys : goal.returns-then-self-keys-clause-keys
returns-then-self-keys-clause-keys c = search rules

pub returns-clause-answer : goal.returns-clause-answer
returns-clause-answer c = search rules
