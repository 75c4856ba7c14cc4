-- Touches one stretch after another. Assumes nothing.
use Rattle.std.proofs.Common.{◌≡◌, ℕ, ◌+◌, List, ◌++◌}
use Rattle.policy.specs.Machine.{Rules, Machine, touched, fetches}
use Rattle.policy.specs.Machines.{touched_append, fetches_append}

-- the fetches of two stretches, with the states given by the touches before them
pub fetches_split : {Setting State : Type 0} (r : Rules Setting State) (m : Machine State) (before xs ys : List ℕ) →
    fetches r (touched r m before) (xs ++ ys) ≡ fetches r (touched r m before) xs + fetches r (touched r m (before ++ xs)) ys
fetches_split r m before xs ys = rw (touched_append r m before xs) (fetches_append r (touched r m before) xs ys)
