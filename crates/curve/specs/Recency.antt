-- A list of different keys, the latest touched first. Assumes nothing.
use Rattle.std.specs.Prelude.{◌≡◌, ℕ, ◌-◌, ◌≤◌, cond, List, ◌∷◌, ◌++◌, length, take, replicate}
use Rattle.base.specs.Lists.{member, place_in, without}
use Rattle.base.specs.declared.limits.TheConstants.{MAX_FRAMES}
use Rattle.curve.specs.declared.recency.Recency.{Recency}

-- a touch of x moves it to the front, or puts it there; at most so many keys are kept
abbrev pub to_front : ℕ → ℕ → List ℕ → List ℕ
to_front most x keys = take most (x ∷ without x keys)

-- where x stands, and `far` if it does not
abbrev pub found_at : ℕ → ℕ → List ℕ → ℕ
found_at far x keys = cond (member x keys) (place_in x keys) far

-- the keys that the code's list has
abbrev pub keys_in : Recency → List ℕ
keys_in r = take r.len r.codes

-- keys, and zeros behind them up to so many
abbrev pub padded : ℕ → List ℕ → List ℕ
padded most keys = keys ++ replicate (most - length keys) 0

-- what every call needs and keeps: the code's list has its keys, and zeros behind them
pub record Padded (r : Recency) : Type 0 where
  pub codes : r.codes ≡ padded MAX_FRAMES (keys_in r)
  pub len : r.len ≡ length (keys_in r)
  pub fits : length (keys_in r) ≤ MAX_FRAMES
