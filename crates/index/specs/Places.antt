-- Steps between the places of a ring, numbered from 0: the first follows the last.
use Rattle.std.specs.Prelude.{ℕ, ◌+◌, ◌-◌, cond, nat_le}

-- how many steps upward lead from one place to another
abbrev pub steps : ℕ → ℕ → ℕ → ℕ
steps places from to = cond (nat_le from to) (to - from) (places - from + to)
