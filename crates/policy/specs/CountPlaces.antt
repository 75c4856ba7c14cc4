-- A place and a use on a clock. Assumes nothing.
use Rattle.std.specs.Prelude.{◌≡◌, ℕ, suc, ◌+◌, ◌-◌, ◌*◌, ◌<◌, List, [], ◌∷◌, ◌++◌, length, ◌≢◌, nat_lt, slice_index, slice_set}
use Rattle.std.proofs.Math.Path.{refl, ap}
use Rattle.std.proofs.Common.{sym, ◌∙◌}
use Rattle.std.proofs.Math.Logic.{inl, inr}
use native.Mathlib.Omega.{arith}
use Rattle.std.proofs.lemmas.List.{length-set, get_or-set_same, get_or-set_other}
use Rattle.std.proofs.lemmas.Bool.{cases_lt, cases_eq, cond-true, lt-ltb, le-ltb}
use Rattle.policy.specs.Order.{Later}
use Rattle.base.specs.Rings.{onward}
use Rattle.policy.specs.Circle.{upward}
use Rattle.policy.specs.Counting.{CountState, count_rules, count_place, count_sweep}
use Rattle.policy.specs.CountOrders.{CountValid, count_order}
use Rattle.policy.specs.Classes.{Counted, classes, raised_later, foremost, hindmost}
use Rattle.policy.specs.Circles.{after_hand, circle_next, upward_push, others}
use Rattle.policy.specs.Rings.{with_counts, frames, frames_below, frames_full, frames_room, order_of, order_set, order_at}
use Rattle.policy.specs.Sweeps.{moved, set_within, onward_within, swept_stops, here_order, moved_order, moved_valid}

-- a count set to the highest, beside others that are the highest
set_full : (counts : List ℕ) (i top f : ℕ) → i < length counts → ((f ≢ i) → slice_index counts f ≡ top) →
    slice_index (slice_set counts i top) f ≡ top
set_full counts i top f low h =
    elim (cases_eq f i) [ inl e ↦ rw (e, get_or-set_same counts i top 0 low) | inr ne ↦ get_or-set_other counts i f top 0 ne ∙ h ne ]

-- with room: the next frame is filled
abbrev filled_one : CountState → CountState
filled_one s = record s {
  filled = s.filled + 1;
  hand = onward s.size s.filled;
  counts = slice_set s.counts s.filled s.top;
}

pub placed_room : (s : CountState) → s.filled < s.size → count_rules.placed s ≡ filled_one s
placed_room s room = let e = lt-ltb s.filled s.size room in simp e

-- a state in which the sweep has stopped
abbrev pub stopped : CountState → CountState
stopped s = count_sweep (s.size * s.top) s

pub placed_full : (s : CountState) → s.filled ≡ s.size → (stopped s).filled ≡ (stopped s).size →
    count_rules.placed s ≡ moved (stopped s) (stopped s).top
placed_full s full still =
    let e = le-ltb s.filled s.size (omega arith) in
    let d = le-ltb (stopped s).filled (stopped s).size (omega arith) in
    simp (e, d)

place_full : (s : CountState) → s.filled ≡ s.size → count_place s ≡ (stopped s).hand
place_full s full = let e = le-ltb s.filled s.size (omega arith) in simp e

module _ (s : CountState) (v : CountValid s) (room : s.filled < s.size) where
  filled_one_valid : CountValid (filled_one s)
  filled_one_valid = record {
    some = v.some;
    hand_within = onward_within s.size s.filled v.some;
    filled_within = omega arith;
    a_count_each = length-set s.counts s.filled s.top ∙ v.a_count_each;
    counts_within = set_within s.counts s.filled s.top s.top (omega arith) (omega arith) v.counts_within;
    hand_at_room = λ more. cond-true (nat_lt (s.filled + 1) s.size) (s.filled + 1) 0 (lt-ltb (s.filled + 1) s.size more);
    full_counts = λ more f low. set_full s.counts s.filled s.top f (omega arith) (λ ne. v.full_counts room f (omega arith));
  }

  filled_one_frames : frames (filled_one s) ≡ upward 0 s.filled ++ (s.filled ∷ [])
  unfolding after_hand
  filled_one_frames =
      elim (cases_lt (s.filled + 1) s.size) [
        | inl more ↦ frames_room (filled_one s) (filled_one_valid.hand_at_room more) ∙ upward_push s.filled
        | inr full ↦
            let none : s.size - (s.filled + 1) ≡ 0 = omega arith in
            frames_full (filled_one s) filled_one_valid.hand_within (omega arith) ∙ circle_next s.size s.filled room ∙ rw none
      ]

  filled_one_order : count_order (filled_one s) ≡ count_order s ++ (s.filled ∷ [])
  unfolding with_counts
  filled_one_order =
      order_set (filled_one s) s.counts (upward 0 s.filled) [] s.filled s.top refl filled_one_frames (omega arith)
      (others s.filled 0 s.filled (inr (omega arith))) tt
      ∙ hindmost (with_counts s.counts (upward 0 s.filled)) s.filled s.top 0 s.top (omega arith)
      ∙ ap (λ xs. xs ++ (s.filled ∷ [])) (sym (order_of s _ (frames_room s (v.hand_at_room room))))

-- a place, with room or without
pub placed_valid : (s : CountState) → CountValid s → CountValid (count_rules.placed s)
placed_valid s v =
    elim (cases_lt s.filled s.size) [
      | inl room ↦ rw (placed_room s room) (filled_one_valid s v room)
      | inr over ↦
          let full : s.filled ≡ s.size = omega arith in
          let t = swept_stops s v full in
          rw (placed_full s full t.still_full) (moved_valid (stopped s) t.valid t.still_full (stopped s).top (omega arith))
    ]

pub placed_frames : (s : CountState) → CountValid s → (count_rules.placed s).size ≡ s.size
placed_frames s v =
    elim (cases_lt s.filled s.size) [
      | inl room ↦ ap (λ (t : CountState). t.size) (placed_room s room)
      | inr over ↦
          let full : s.filled ≡ s.size = omega arith in
          let t = swept_stops s v full in
          ap (λ (u : CountState). u.size) (placed_full s full t.still_full) ∙ t.same_size
    ]

pub room_order : (s : CountState) → CountValid s → s.filled < s.size → count_order (count_rules.placed s) ≡ count_order s ++ (s.filled ∷ [])
room_order s v room = ap count_order (placed_room s room) ∙ filled_one_order s v room

pub full_order : (s : CountState) → CountValid s → s.filled ≡ s.size →
    (rest : List ℕ) × (count_order s ≡ count_place s ∷ rest) × (count_order (count_rules.placed s) ≡ rest ++ (count_place s ∷ []))
full_order s v full =
    let t : CountState = stopped s in
    let d = swept_stops s v full in
    let ps : List Counted = with_counts t.counts (after_hand t.size t.hand) in
    let rest : List ℕ = classes ps 0 (suc t.top) in
    let place : t.hand ≡ count_place s = sym (place_full s full) in (
      rest,
      sym d.same_order ∙ here_order t d.valid d.still_full ∙ ap (λ n. classes ((t.hand, n) ∷ ps) 0 (suc t.top)) d.at_zero
          ∙ foremost ps t.hand t.top ∙ ap (λ h. h ∷ rest) place,
      ap count_order (placed_full s full d.still_full) ∙ moved_order t d.valid d.still_full t.top
          ∙ hindmost ps t.hand t.top 0 t.top (omega arith) ∙ ap (λ h. rest ++ (h ∷ [])) place,
    )

-- a use
module _ (s : CountState) (v : CountValid s) (f : ℕ) (low : f < s.filled) where
  pub used_valid : CountValid (count_rules.used s f)
  used_valid = record {
    some = v.some;
    hand_within = v.hand_within;
    filled_within = v.filled_within;
    a_count_each = length-set s.counts f s.top ∙ v.a_count_each;
    counts_within = set_within s.counts f s.top s.top (omega arith) (omega arith) v.counts_within;
    hand_at_room = v.hand_at_room;
    full_counts = λ room g less. set_full s.counts f s.top g (omega arith) (λ ne. v.full_counts room g less);
  }

  pub used_order : Later f (count_order s) (count_order (count_rules.used s f))
  unfolding frames
  used_order =
      let o = (frames_below s v).once f low in
      let (a, b, c, before, after) =
      raised_later (with_counts s.counts o.before) (with_counts s.counts o.after) f (slice_index s.counts f) s.top 0
      s.top (omega arith) (omega arith) (v.counts_within f) in (
        a,
        b,
        c,
        order_at s v f low ∙ before,
        order_set (count_rules.used s f) s.counts o.before o.after f s.top refl o.is (omega arith) o.before_others o.after_others ∙ after,
      )
