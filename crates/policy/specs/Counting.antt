-- The family of CLOCK, with a count from 0 to a top for each frame; at top 1 the counts are marks. Assumes nothing.
use Rattle.std.specs.Prelude.{ℕ, zero, suc, ◌+◌, ◌-◌, ◌*◌, cond, List, replicate, nat_lt, slice_index, slice_set}
use Rattle.base.specs.Rings.{onward}
use Rattle.policy.specs.Machine.{Rules}

-- The same as for CLOCK, with the highest count and the count of each frame in place of the marks.
pub record CountState : Type 0 where
  pub size : ℕ
  pub filled : ℕ
  pub hand : ℕ
  pub top : ℕ
  pub counts : List ℕ

-- the count under the hand is lowered by one, and the hand moves one frame on
abbrev pub lowered : CountState → CountState
lowered s = record s {
  hand = onward s.size s.hand;
  counts = slice_set s.counts s.hand (slice_index s.counts s.hand - 1);
}

-- this is done while the count under the hand is above 0, at most so many times
abbrev pub count_sweep : ℕ → CountState → CountState
count_sweep zero s = s
count_sweep (suc times) s = cond (nat_lt 0 (slice_index s.counts s.hand)) (count_sweep times (lowered s)) s

-- a place sweeps when all frames are filled: each count is lowered top times at most, so the hand comes to a 0
abbrev pub count_swept : CountState → CountState
count_swept s = cond (nat_lt s.filled s.size) s (count_sweep (s.size * s.top) s)

-- while there is room the number filled, afterwards the frame at which the hand comes to stand
abbrev pub count_place : CountState → ℕ
count_place s = cond (nat_lt s.filled s.size) s.filled (count_swept s).hand

-- a place sets the count of its frame to the top and leaves the hand one past it
abbrev pub count_taken : CountState → ℕ → CountState
count_taken s f = record s {
  filled = cond (nat_lt s.filled s.size) (s.filled + 1) s.filled;
  hand = onward s.size f;
  counts = slice_set s.counts f s.top;
}

-- the setting is the top, and a use sets the count of its frame to it
abbrev pub count_rules : Rules ℕ CountState
count_rules = record {
  first = λ c k. record { size = k; filled = 0; hand = 0; top = c; counts = replicate k 0 };
  frames = λ s. s.size;
  filled = λ s. s.filled;
  place = count_place;
  placed = λ s. count_taken (count_swept s) (count_place s);
  used = λ s f. record s { counts = slice_set s.counts f s.top };
}
