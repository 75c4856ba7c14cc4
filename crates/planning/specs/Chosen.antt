-- Which frame MIN empties, by the places of next touches. Assumes nothing.
use Rattle.std.specs.Prelude.{◌≡◌, ℕ, ◌+◌, ◌<◌, ◌≤◌, List, length, map, drop, slice_index}
use Rattle.base.specs.Lists.{place_in}

-- A frame whose key is touched again no sooner than any other, and later than those in lower frames.
pub record LowestFurthest (frames : ℕ) (again : ℕ → ℕ) (f : ℕ) : Type 0 where
  pub within : f < frames
  pub most : (g : ℕ) → g < frames → again g ≤ again f
  pub first : (g : ℕ) → g < f → again g < again f

-- The frame for a fetched key: the next to fill while there is room, and afterwards the lowest whose key is touched again last.
pub record Chosen (filled frames : ℕ) (again : ℕ → ℕ) (f : ℕ) : Type 0 where
  pub room : filled < frames → f ≡ filled
  pub full : frames ≤ filled → LowestFurthest frames again f

-- The next-touch list at j: the place of the next touch of the key touched at j, or the list's length where there is none.
abbrev pub NextTouch : List ℕ → List ℕ → ℕ → Type 0
NextTouch touches next j = slice_index next j ≡ j + 1 + place_in (slice_index touches j) (drop (j + 1) touches)

-- the list has it for each touch of some keys
abbrev pub NextTouches : {K : Type 0} → (K → ℕ) → List K → List ℕ → Type 0
NextTouches code keys next = (j : ℕ) → j < length keys → NextTouch (map code keys) next j

-- each filled frame's place in the held-key list is below a number
abbrev pub HeldBelow : ℕ → List ℕ → ℕ → Type 0
HeldBelow filled held n = (f : ℕ) → f < filled → slice_index held f < n

-- where a frame's key is touched again, by the next-touch list at the key's latest touch
abbrev pub next_of : List ℕ → List ℕ → ℕ → ℕ
next_of next held f = slice_index next (slice_index held f)
