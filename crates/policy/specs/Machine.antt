-- Policies by their rules, and the frame machine, which serves touches of keys by such rules. Assumes nothing.
use Rattle.std.specs.Prelude.{ℕ, ◌+◌, cond, List, [], ◌∷◌, ◌++◌, length, nat_lt, slice_set}
use Rattle.base.specs.Lists.{member, place_in}

-- What a policy means: the state that a setting and a number of frames give, and what its two calls do.
pub record Rules (Setting State : Type 0) : Type 0 where
  pub first : Setting → ℕ → State
  -- how many frames there are, and how many of them are filled
  pub frames : State → ℕ
  pub filled : State → ℕ
  -- the frame that a place answers, and the state after it
  pub place : State → ℕ
  pub placed : State → State
  -- the state after a use of a filled frame
  pub used : State → ℕ → State

-- A policy's state, and the keys that the filled frames hold, from frame 0 on.
pub record Machine (State : Type 0) : Type 0 where
  pub policy : State
  pub keys : List ℕ

-- the keys held once frame f, filled or the next to fill, holds x
abbrev pub put : List ℕ → ℕ → ℕ → List ℕ
put keys f x = cond (nat_lt f (length keys)) (slice_set keys f x) (keys ++ (x ∷ []))

module _ {Setting State : Type 0} (r : Rules Setting State) where
  -- the machine with k empty frames
  abbrev pub start : Setting → ℕ → Machine State
  start c k = record { policy = r.first c k; keys = [] }

  -- a hit uses the frame that holds the key
  abbrev pub hit : Machine State → ℕ → Machine State
  hit m x = record { policy = r.used m.policy (place_in x m.keys); keys = m.keys }

  -- a fetch holds the key in the frame that a place answers, and any key held there is put out
  abbrev pub fetch : Machine State → ℕ → Machine State
  fetch m x = record { policy = r.placed m.policy; keys = put m.keys (r.place m.policy) x }

  -- a touch of a key: a hit where a frame holds it, and otherwise a fetch
  abbrev pub touch : Machine State → ℕ → Machine State
  touch m x = cond (member x m.keys) (hit m x) (fetch m x)

  -- the machine after a list of touches
  abbrev pub touched : Machine State → List ℕ → Machine State
  touched m [] = m
  touched m (x ∷ xs) = touched (touch m x) xs

  -- how many touches of a list are fetches
  abbrev pub fetches : Machine State → List ℕ → ℕ
  fetches m [] = 0
  fetches m (x ∷ xs) = cond (member x m.keys) 0 1 + fetches (touch m x) xs
