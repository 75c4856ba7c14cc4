-- How every policy fills its frames. Assumes nothing.
use Rattle.std.specs.Prelude.{◌≡◌, ℕ, suc, ◌<◌, ◌≤◌, length}
use Rattle.base.specs.Lists.{Apart}
use Rattle.policy.specs.Machine.{Rules, Machine}

-- The states that the calls of a policy with k ≥ 1 frames bring up.
pub data Reached {Setting State : Type 0} (r : Rules Setting State) : State → Type 0 where
  first : (c : Setting) (k : ℕ) → 1 ≤ k → Reached r (r.first c k)
  placed : {s : State} → Reached r s → Reached r (r.placed s)
  used : {s : State} → Reached r s → (f : ℕ) → f < r.filled s → Reached r (r.used s f)

-- A place answers the number filled while there is room, and afterwards one of the frames; a use keeps both numbers.
pub record Shape {Setting State : Type 0} (r : Rules Setting State) : Type 0 where
  pub first_frames : (c : Setting) (k : ℕ) → 1 ≤ k → r.frames (r.first c k) ≡ k
  pub first_filled : (c : Setting) (k : ℕ) → 1 ≤ k → r.filled (r.first c k) ≡ 0
  pub within : (s : State) → Reached r s → r.filled s ≤ r.frames s
  pub placed_frames : (s : State) → Reached r s → r.frames (r.placed s) ≡ r.frames s
  pub room_place : (s : State) → Reached r s → r.filled s < r.frames s → r.place s ≡ r.filled s
  pub room_filled : (s : State) → Reached r s → r.filled s < r.frames s → r.filled (r.placed s) ≡ suc (r.filled s)
  pub full_place : (s : State) → Reached r s → r.filled s ≡ r.frames s → r.place s < r.frames s
  pub full_filled : (s : State) → Reached r s → r.filled s ≡ r.frames s → r.filled (r.placed s) ≡ r.filled s
  pub used_frames : (s : State) → Reached r s → (f : ℕ) → f < r.filled s → r.frames (r.used s f) ≡ r.frames s
  pub used_filled : (s : State) → Reached r s → (f : ℕ) → f < r.filled s → r.filled (r.used s f) ≡ r.filled s

-- What every touch keeps of a frame machine on k frames: each filled frame holds a key, and no two the same.
pub record Running {Setting State : Type 0} (r : Rules Setting State) (k : ℕ) (m : Machine State) : Type 0 where
  pub reached : Reached r m.policy
  pub frames : r.frames m.policy ≡ k
  pub filled : r.filled m.policy ≡ length m.keys
  pub apart : Apart m.keys
