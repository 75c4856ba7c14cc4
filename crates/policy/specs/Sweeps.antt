-- The hand over a full clock: it moves on, sweeps, and stops. Assumes nothing.
use Rattle.std.specs.Prelude.{◌≡◌, ℕ, zero, suc, ◌-◌, ◌*◌, ◌<◌, ◌≤◌, nat_lt}
use Rattle.std.specs.Prelude.{List, [], ◌∷◌, ◌++◌, length, sum, slice_index, slice_index_or, slice_set}
use Rattle.std.proofs.Math.Path.{refl}
use Rattle.std.proofs.Common.{sym, ap, ◌∙◌, inl, inr, arith}
use Rattle.std.proofs.lemmas.List.{length-set, get_or-set_same, get_or-set_other}
use Rattle.std.proofs.ByRecursion.{All-from_get_or, sum_by_le}
use Rattle.std.proofs.lemmas.List.Sums.{sum_by-set, get_or-le-sum_by}
use Rattle.std.proofs.lemmas.Bool.{cases_lt, cases_eq, cond-true, cond-false, lt-ltb, le-ltb}
use Rattle.base.specs.Rings.{onward}
use Rattle.policy.specs.Counting.{CountState, count_sweep}
use Rattle.policy.specs.CountOrders.{CountValid, count_order}
use Rattle.policy.specs.Classes.{Counted, classes, lowered_same}
use Rattle.policy.specs.Circles.{after_hand, circle_here, circle_next, behind_others}
use Rattle.policy.specs.Rings.{with_counts, frames_full, order_of, order_set}

-- the hand gives its frame the count n, and moves on
abbrev pub moved : CountState → ℕ → CountState
moved s n = record s { hand = onward s.size s.hand; counts = slice_set s.counts s.hand n }

pub onward_within : (size h : ℕ) → 1 ≤ size → onward size h < size
onward_within size h some = grind arith

-- a count within the bound keeps the counts within
pub set_within : (counts : List ℕ) (i n top : ℕ) → i < length counts → n ≤ top →
    ((f : ℕ) → slice_index counts f ≤ top) → (f : ℕ) → slice_index (slice_set counts i n) f ≤ top
set_within counts i n top low small h f =
    elim (cases_eq f i) [
      | inl e ↦ rw (e, get_or-set_same counts i n 0 low) small
      | inr ne ↦ rw (get_or-set_other counts i f n 0 ne) (h f)
    ]

module _ (s : CountState) (v : CountValid s) (full : s.filled ≡ s.size) where
  pub moved_valid : (n : ℕ) → n ≤ s.top → CountValid (moved s n)
  moved_valid n small = record {
    some = v.some;
    hand_within = onward_within s.size s.hand v.some;
    filled_within = v.filled_within;
    a_count_each = length-set s.counts s.hand n ∙ v.a_count_each;
    counts_within = set_within s.counts s.hand n s.top (omega arith) small v.counts_within;
    hand_at_room = λ room. absurd (omega arith);
    full_counts = λ room. absurd (omega arith);
  }

  -- the order as the hand stands
  pub here_order : count_order s ≡ classes ((s.hand, slice_index s.counts s.hand) ∷ with_counts s.counts (after_hand s.size s.hand)) 0
      (suc s.top)
  unfolding with_counts
  here_order = order_of s _ (frames_full s v.hand_within full ∙ circle_here s.size s.hand v.hand_within)

  -- the order once it has moved on
  pub moved_order : (n : ℕ) →
      count_order (moved s n) ≡ classes (with_counts s.counts (after_hand s.size s.hand) ++ ((s.hand, n) ∷ [])) 0 (suc s.top)
  unfolding with_counts
  moved_order n =
      order_set (moved s n) s.counts (after_hand s.size s.hand) [] s.hand n refl
      (frames_full (moved s n) (onward_within s.size s.hand v.some) full ∙ circle_next s.size s.hand v.hand_within)
      (omega arith) (behind_others s.size s.hand) tt

  -- to lower the count under the hand and move on keeps the order
  pub lowered_order : 0 < slice_index s.counts s.hand → count_order (moved s (slice_index s.counts s.hand - 1)) ≡ count_order s
  lowered_order more =
      let n : ℕ = slice_index_or s.counts s.hand 0 in
      let e : suc (n - 1) ≡ n = omega arith in
      let ps : List Counted = with_counts s.counts (after_hand s.size s.hand) in
      moved_order (n - 1)
      ∙ sym (lowered_same ps s.hand (n - 1) 0 (suc s.top) (omega arith) (omega (arith, v.counts_within s.hand)))
      ∙ ap (λ k. classes ((s.hand, k) ∷ ps) 0 (suc s.top)) e
      ∙ sym here_order

-- where a sweep from s stops
pub record StopsSweep (s t : CountState) : Type 0 where
  pub valid : CountValid t
  pub same_size : t.size ≡ s.size
  pub still_full : t.filled ≡ t.size
  pub same_order : count_order t ≡ count_order s
  pub at_zero : slice_index_or t.counts t.hand 0 ≡ 0

-- the counts' sum falls with each step, so the fuel is enough
sweep_stops : (fuel : ℕ) (s : CountState) → CountValid s → s.filled ≡ s.size → sum s.counts ≤ fuel → StopsSweep s (count_sweep fuel s)
sweep_stops zero s v full enough = record {
  valid = v;
  same_size = refl;
  still_full = full;
  same_order = refl;
  at_zero = omega (arith, get_or-le-sum_by (λ x. x) s.counts s.hand 0 (omega arith));
}
sweep_stops (suc fuel) s v full enough =
    let n : ℕ = slice_index_or s.counts s.hand 0 in
    elim (cases_lt 0 n) [
      | inl more ↦
          let small : n ≤ s.top = v.counts_within s.hand in
          let t : CountState = moved s (n - 1) in
          let fallen = sum_by-set (λ x. x) s.counts s.hand (n - 1) 0 (omega arith) in
          let r : StopsSweep t (count_sweep fuel t) = sweep_stops fuel t (moved_valid s v full (n - 1) (omega arith)) full (omega arith) in
          rw (cond-true (nat_lt 0 n) (count_sweep fuel t) s (lt-ltb 0 n more)) (record {
            valid = r.valid;
            same_size = r.same_size;
            still_full = r.still_full;
            same_order = r.same_order ∙ lowered_order s v full more;
            at_zero = r.at_zero;
          })
      | inr none ↦ rw (cond-false (nat_lt 0 n) _ s (le-ltb 0 n none))
          (record { valid = v; same_size = refl; still_full = full; same_order = refl; at_zero = omega arith })
    ]

-- at most size * top steps are needed
pub swept_stops : (s : CountState) → CountValid s → s.filled ≡ s.size → StopsSweep s (count_sweep (s.size * s.top) s)
swept_stops s v full =
    let most = rw v.a_count_each at (sum_by_le (λ x. x) s.top s.counts
    (All-from_get_or (λ n. n ≤ s.top) s.counts 0 (λ f _. v.counts_within f))) in
    sweep_stops (s.size * s.top) s v full (omega arith)
