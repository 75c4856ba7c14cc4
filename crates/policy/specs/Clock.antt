-- CLOCK: a hand that goes round over the frames, and a mark for each of them. Assumes nothing.
use Rattle.std.specs.Prelude.{ℕ, zero, suc, ◌+◌, Bool, true, false, cond, List, replicate, nat_lt, slice_index_or, slice_set}
use Rattle.arrayvec.specs.ArrayVec.{array_vec_len}
use Rattle.base.specs.Rings.{onward}
use Rattle.policy.specs.Machine.{Rules}
use Rattle.policy.specs.declared.clock.Clock.{Clock}

-- How many frames there are and how many are filled, where the hand stands, and the mark of each frame.
pub record ClockState : Type 0 where
  pub size : ℕ
  pub filled : ℕ
  pub hand : ℕ
  pub marks : List Bool

-- the mark under the hand is cleared, and the hand moves one frame on
abbrev pub cleared : ClockState → ClockState
cleared s = record s { hand = onward s.size s.hand; marks = slice_set s.marks s.hand false }

-- this is done while the mark under the hand is set, at most so many times
abbrev pub sweep : ℕ → ClockState → ClockState
sweep zero s = s
sweep (suc times) s = cond (slice_index_or s.marks s.hand false) (sweep times (cleared s)) s

-- a place sweeps when all frames are filled: each mark is cleared once at most, so the hand comes to a clear one
abbrev pub swept : ClockState → ClockState
swept s = cond (nat_lt s.filled s.size) s (sweep s.size s)

-- while there is room the number filled, afterwards the frame at which the hand comes to stand
abbrev pub clock_place : ClockState → ℕ
clock_place s = cond (nat_lt s.filled s.size) s.filled (swept s).hand

-- a place sets the mark of its frame and leaves the hand one past it
abbrev pub taken : ClockState → ℕ → ClockState
taken s f = record s {
  filled = cond (nat_lt s.filled s.size) (s.filled + 1) s.filled;
  hand = onward s.size f;
  marks = slice_set s.marks f true;
}

-- a use sets the mark of its frame
abbrev pub clock_rules : Rules (Unit {0}) ClockState
clock_rules = record {
  first = λ c k. record { size = k; filled = 0; hand = 0; marks = replicate k false };
  frames = λ s. s.size;
  filled = λ s. s.filled;
  place = clock_place;
  placed = λ s. taken (swept s) (clock_place s);
  used = λ s f. record s { marks = slice_set s.marks f true };
}

-- the state that the code keeps, with a mark for each frame
abbrev pub clock_state : Clock → ClockState
clock_state c = record { size = array_vec_len c.marks; filled = c.filled; hand = c.hand; marks = c.marks.items }
