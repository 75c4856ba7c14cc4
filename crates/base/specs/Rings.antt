-- Places in a ring, numbered from 0: the first follows the last. Assumes nothing.
use Rattle.std.specs.Prelude.{ℕ, ◌+◌, cond, nat_lt}

-- the place after one of size places
abbrev pub onward : ℕ → ℕ → ℕ
onward size place = cond (nat_lt (place + 1) size) (place + 1) 0
