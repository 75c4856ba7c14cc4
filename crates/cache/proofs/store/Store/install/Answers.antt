use Rattle.std.proofs.Common.{arith, rules}
use Rattle.std.proofs.lemmas.Grind.{common_steps}
use Rattle.cache.proofs.store.Store.install.Goals as goal

-- By the one tactic that proves it: where the code is wrong no other is tried.
pub returns-then-place-len : goal.returns-then-place-len
returns-then-place-len c = grind (arith, common_steps)

pub returns-else-place-len : goal.returns-else-place-len
returns-else-place-len c = search rules
