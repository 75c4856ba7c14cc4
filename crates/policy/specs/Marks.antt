-- CLOCK is the clock with counts whose top is 1: a set mark is a count of 1. Assumes nothing.
use Rattle.std.specs.Prelude.{◌≡◌, ℕ, zero, suc, ◌*◌, Bool, true, false, cond, refl}
use Rattle.std.specs.Prelude.{◌∷◌, map, get_or, replicate, nat_lt, slice_index_or}
use Rattle.std.proofs.Common.{ap, ◌∙◌, inl, inr, arith}
use Rattle.std.proofs.Math.ListN.{get_or-map}
use Rattle.std.proofs.lemmas.List.{map-set}
use Rattle.std.proofs.lemmas.Bool.{cases_Bool}
use Rattle.policy.specs.Order.{OrderedBy}
use Rattle.policy.specs.Clock.{ClockState, cleared, sweep, swept, clock_place, clock_rules}
use Rattle.policy.specs.Counting.{CountState, count_sweep, count_swept, count_place, count_rules}
use Rattle.policy.specs.CountOrders.{CountValid, count_order}
use Rattle.policy.specs.Counts.{count_ordered}
use Rattle.policy.specs.Simulations.{Simulates, ordered_as}

-- a mark as a count
abbrev pub count : Bool → ℕ
count m = cond m 1 0

-- a state with marks as one with counts
abbrev pub counted_state : ClockState → CountState
counted_state s = record { size = s.size; filled = s.filled; hand = s.hand; top = 1; counts = map count s.marks }

count_none : (k : ℕ) → map count (replicate k false) ≡ replicate k 0
count_none zero = refl
count_none (suc k) = ap (λ xs. 0 ∷ xs) (count_none k)

-- the sweep
sweep_counts : (n : ℕ) (s : ClockState) → counted_state (sweep n s) ≡ count_sweep n (counted_state s)
sweep_counts zero s = refl
sweep_counts (suc n) s =
    elim (cases_Bool (slice_index_or s.marks s.hand false)) [
      | inl e ↦
          let one : get_or (map count s.marks) s.hand 0 ≡ 1 = get_or-map count s.marks s.hand false ∙ ap count e in
          rw (e, one, ← map-set count s.marks s.hand false) (sweep_counts n (cleared s))
      | inr e ↦
          let none : get_or (map count s.marks) s.hand 0 ≡ 0 = get_or-map count s.marks s.hand false ∙ ap count e in
          rw (e, none)
    ]

swept_counts : (s : ClockState) → counted_state (swept s) ≡ count_swept (counted_state s)
swept_counts s =
    elim (cases_Bool (nat_lt s.filled s.size)) [
      | inl e ↦ rw e
      | inr e ↦ let same : s.size * 1 ≡ s.size = omega arith in rw (e, same) (sweep_counts s.size s)
    ]

place_counts : (s : ClockState) → clock_place s ≡ count_place (counted_state s)
place_counts s = ap (cond (nat_lt s.filled s.size) s.filled) (ap (λ t. t.hand) (swept_counts s))

clock_counts : Simulates clock_rules count_rules (λ c. 1) counted_state
clock_counts = record {
  first = λ c k. rw (count_none k);
  frames = λ s. refl;
  filled = λ s. refl;
  place = place_counts;
  placed = λ s. rw (← swept_counts s, map-set count (swept s).marks (clock_place s) true);
  used = λ s f. rw (map-set count s.marks f true);
}

pub clock_ordered : OrderedBy clock_rules (λ s. CountValid (counted_state s)) (λ s. count_order (counted_state s))
clock_ordered = ordered_as clock_counts count_ordered
