-- Policies that evict by an order of their frames. Assumes nothing.
use Rattle.std.specs.Prelude.{◌≡◌, ℕ, ◌<◌, ◌≤◌, true, List, [], ◌∷◌, ◌++◌, length}
use Rattle.base.specs.Lists.{member}
use Rattle.policy.specs.Machine.{Rules}

-- ys is xs with f moved to a later place, or left where it was
abbrev pub Later : ℕ → List ℕ → List ℕ → Type 0
Later f xs ys = (a : List ℕ) × (b : List ℕ) × (c : List ℕ) × (xs ≡ a ++ (f ∷ (b ++ c))) × (ys ≡ a ++ (b ++ (f ∷ c)))

-- An eviction order: in each state that can come up, the filled frames, the first to go first.
-- `valid` holds of those states, and `order` is the order.
pub record OrderedBy {Setting State : Type 0} (r : Rules Setting State) (valid : State → Type 0) (order : State → List ℕ) : Type 0 where
  pub first_valid : (c : Setting) (k : ℕ) → 1 ≤ k → valid (r.first c k)
  pub first_frames : (c : Setting) (k : ℕ) → r.frames (r.first c k) ≡ k
  pub first_order : (c : Setting) (k : ℕ) → order (r.first c k) ≡ []
  pub filled_order : (s : State) → valid s → r.filled s ≡ length (order s)
  -- the order has every filled frame, and no other
  pub within : (s : State) → valid s → length (order s) ≤ r.frames s
  pub covers : (s : State) → valid s → (f : ℕ) → f < length (order s) → member f (order s) ≡ true
  pub bounded : (s : State) → valid s → (f : ℕ) → member f (order s) ≡ true → f < length (order s)
  -- a place while there is room
  pub placed_valid : (s : State) → valid s → valid (r.placed s)
  pub placed_frames : (s : State) → valid s → r.frames (r.placed s) ≡ r.frames s
  pub room_place : (s : State) → valid s → length (order s) < r.frames s → r.place s ≡ length (order s)
  pub room_order : (s : State) → valid s → length (order s) < r.frames s → order (r.placed s) ≡ order s ++ (length (order s) ∷ [])
  -- a place with all frames filled: the first of the order goes, and comes last
  pub full_order : (s : State) → valid s → length (order s) ≡ r.frames s → 1 ≤ r.frames s →
      (rest : List ℕ) × (order s ≡ r.place s ∷ rest) × (order (r.placed s) ≡ rest ++ (r.place s ∷ []))
  -- a use of a filled frame
  pub used_valid : (s : State) → valid s → (f : ℕ) → f < length (order s) → valid (r.used s f)
  pub used_frames : (s : State) → valid s → (f : ℕ) → f < length (order s) → r.frames (r.used s f) ≡ r.frames s
  pub used_order : (s : State) → valid s → (f : ℕ) → f < length (order s) → Later f (order s) (order (r.used s f))
