-- CLOCK evicts by an order. Assumes nothing.
use Rattle.std.specs.Prelude.{◌≡◌, ℕ, suc, ◌≤◌, [], replicate, refl}
use Rattle.std.proofs.Common.{sym, ◌∙◌, inl, inr, arith}
use Rattle.std.proofs.lemmas.List.{length-replicate, get_or-replicate, get_or_past}
use Rattle.std.proofs.lemmas.Bool.{cases_lt, cond-true, lt-ltb}
use Rattle.policy.specs.Order.{OrderedBy}
use Rattle.policy.specs.Counting.{CountState, count_rules}
use Rattle.policy.specs.CountOrders.{CountValid, count_order}
use Rattle.policy.specs.Members.{member_at, all_member}
use Rattle.policy.specs.Classes.{classes_none}
use Rattle.policy.specs.Rings.{with_counts, frames_room, order_of, length-order, order_within, order_has}
use Rattle.policy.specs.CountPlaces.{placed_valid, placed_frames, room_order, full_order, used_valid, used_order}

first_valid : (c k : ℕ) → 1 ≤ k → CountValid (count_rules.first c k)
first_valid c k some = record {
  some = some;
  hand_within = some;
  filled_within = omega arith;
  a_count_each = length-replicate k 0;
  counts_within = λ f.
      elim (cases_lt f k) [
        | inl low ↦ rw (get_or-replicate {A = ℕ} k f 0 0 low) (omega arith)
        | inr past ↦ rw (get_or_past {X = ℕ} (replicate k 0) f 0 (rw length-replicate past)) (omega arith)
      ];
  hand_at_room = λ room. refl;
  full_counts = λ room f low. absurd (omega arith);
}

first_order : (c k : ℕ) → count_order (count_rules.first c k) ≡ []
unfolding with_counts
first_order c k = let s : CountState = count_rules.first c k in order_of s [] (frames_room s refl) ∙ classes_none 0 (suc c)

pub count_ordered : OrderedBy count_rules CountValid count_order
count_ordered = record {
  first_valid = first_valid;
  first_frames = λ c k. refl;
  first_order = first_order;
  filled_order = λ s v. sym (length-order s v);
  within = λ s v. omega (arith, length-order s v, v.filled_within);
  covers = λ s v f low.
      let (a, b, e) = order_has s v f (omega (arith, length-order s v)) in
      rw e (member_at f a b);
  bounded = λ s v f in'. rw (length-order s v) (all_member _ (count_order s) f (order_within s v) in');
  placed_valid = placed_valid;
  placed_frames = placed_frames;
  room_place = λ s v room. rw (length-order s v) (cond-true _ _ _ (lt-ltb s.filled s.size (omega (arith, length-order s v))));
  room_order = λ s v room. rw (length-order s v) (room_order s v (omega (arith, length-order s v)));
  full_order = λ s v full some. full_order s v (omega (arith, length-order s v));
  used_valid = λ s v f low. used_valid s v f (omega (arith, length-order s v));
  used_frames = λ s v f low. refl;
  used_order = λ s v f low. used_order s v f (omega (arith, length-order s v));
}
