-- What LRU fetches on each number of frames. Assumes nothing.
use Rattle.std.specs.Prelude.{◌≡◌, ℕ, ◌-◌, ◌≤◌, cond, ◌&&◌, List, ◌++◌, map, length, drop, slice_index, Ok, Err, Result, nat_le}
use Rattle.std.specs.List.{range_with_len}
use Rattle.base.specs.declared.limits.TheConstants.{MAX_FRAMES, MAX_TOUCHES}
use Rattle.base.specs.declared.refusal.Refusal.{Refusal}
use Rattle.base.specs.declared.refusal.Refusal.TheVariants.{ListTooLong, TooFewPlaces}
use Rattle.policy.specs.Machine.{start, fetches}
use Rattle.policy.specs.Lru.{lru_rules}
use Rattle.curve.specs.Distances.{at_least}

-- how the lists are judged: the length of the list of touches first, then the places for distances and for counts
abbrev pub curve_answer : ℕ → ℕ → ℕ → Result (Unit {0}) Refusal
curve_answer touches distances counts =
    cond (nat_le touches MAX_TOUCHES)
    (cond (nat_le touches distances && nat_le MAX_FRAMES counts) (Ok tt) (Err TooFewPlaces))
    (Err ListTooLong)

-- what the frame machine fetches with LRU's rules on k frames that begin empty
abbrev pub lru_fetches : List ℕ → ℕ → ℕ
lru_fetches touches k = fetches lru_rules (start lru_rules tt k) touches

-- the same on each number of frames, from 1 on
unfoldable pub curve_of : List ℕ → List ℕ
curve_of touches = map (lru_fetches touches) (range_with_len 1 MAX_FRAMES)

-- a list afterwards: what is written, and behind it what stood there; after a refusal what it was
abbrev pub list_after : {A E : Type 0} → Result A E → List ℕ → List ℕ → List ℕ
list_after (Ok a) written old = written ++ drop (length written) old
list_after (Err e) written old = old

-- What the counts are, the first of which is that for one frame.
pub record Curve (touches distances counts : List ℕ) : Type 0 where
  -- the count for k is what the frame machine fetches by LRU on k frames
  pub fetched : (k : ℕ) → 1 ≤ k → k ≤ MAX_FRAMES → slice_index counts (k - 1) ≡ lru_fetches touches k
  -- these are the touches at distance k or more
  pub far : (k : ℕ) → 1 ≤ k → k ≤ MAX_FRAMES → slice_index counts (k - 1) ≡ at_least k distances
  -- more frames never fetch more
  pub falling : (j k : ℕ) → 1 ≤ j → j ≤ k → k ≤ MAX_FRAMES → slice_index counts (k - 1) ≤ slice_index counts (j - 1)
