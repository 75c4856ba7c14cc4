-- The eviction order of a clock with counts, and the states that come up. Assumes nothing.
use Rattle.std.specs.Prelude.{◌≡◌, ℕ, zero, suc, ◌+◌, ◌<◌, ◌≤◌, ◌&&◌, List, [], ◌++◌, length, filter, ◌==◌, nat_lt, slice_index}
use Rattle.policy.specs.Circle.{circle}
use Rattle.policy.specs.Counting.{CountState}

-- the filled frames whose count is j, as the hand comes to them
abbrev pub at_count : CountState → ℕ → List ℕ
at_count s j = filter (λ f. nat_lt f s.filled && slice_index s.counts f == j) (circle s.size s.hand)

-- those whose count is j, then those with the next higher count, and so on for n counts
abbrev pub from_count : CountState → ℕ → ℕ → List ℕ
from_count s j zero = []
from_count s j (suc n) = at_count s j ++ from_count s (j + 1) n

-- the eviction order: by count, and among equal counts as the hand comes to them
abbrev pub count_order : CountState → List ℕ
count_order s = from_count s 0 (s.top + 1)

pub record CountValid (s : CountState) : Type 0 where
  pub some : 1 ≤ s.size
  pub hand_within : s.hand < s.size
  pub filled_within : s.filled ≤ s.size
  pub a_count_each : length s.counts ≡ s.size
  pub counts_within : (f : ℕ) → slice_index s.counts f ≤ s.top
  -- while there is room, the hand stands at the next frame to fill, and each filled frame has its full count
  pub hand_at_room : s.filled < s.size → s.hand ≡ s.filled
  pub full_counts : s.filled < s.size → (f : ℕ) → f < s.filled → slice_index s.counts f ≡ s.top
