-- A policy that evicts by an order has the shape of a policy. Assumes nothing.
use Rattle.std.specs.Prelude.{◌≡◌, ℕ, suc, ◌<◌, ◌≤◌, List, [], ◌∷◌, ◌++◌, length}
use Rattle.std.proofs.Common.{sym, ap, ◌∙◌, add-one}
use Rattle.std.proofs.lemmas.List.{length_push}
use Rattle.policy.specs.Machine.{Rules}
use Rattle.policy.specs.Order.{OrderedBy}
use Rattle.policy.specs.Shape.{Reached, first, placed, used, Shape}
use Rattle.policy.specs.Members.{member_first}
use Rattle.policy.specs.Steps.{later_length}

module _ {Setting State : Type 0} {r : Rules Setting State} {valid : State → Type 0} {order : State → List ℕ}
    (o : OrderedBy r valid order) where
  -- the states that come up are valid, and have a frame
  pub reached_valid : {s : State} → Reached r s → valid s
  reached_valid (first c k h) = o.first_valid c k h
  reached_valid (placed {s} q) = o.placed_valid s (reached_valid q)
  reached_valid (used {s} q f h) = o.used_valid s (reached_valid q) f (rw (sym (o.filled_order s (reached_valid q))) h)

  reached_some : {s : State} → Reached r s → 1 ≤ r.frames s
  reached_some (first c k h) = rw (o.first_frames c k) h
  reached_some (placed {s} q) = rw (o.placed_frames s (reached_valid q)) (reached_some q)
  reached_some (used {s} q f h) =
      rw (o.used_frames s (reached_valid q) f (rw (sym (o.filled_order s (reached_valid q))) h)) (reached_some q)

  module _ (s : State) (q : Reached r s) where
    many : r.filled s ≡ length (order s)
    many = o.filled_order s (reached_valid q)

    next_many : r.filled (r.placed s) ≡ length (order (r.placed s))
    next_many = o.filled_order (r.placed s) (o.placed_valid s (reached_valid q))

    below : (f : ℕ) → f < r.filled s → f < length (order s)
    below f h = rw many at h

    -- a place while there is room
    room : r.filled s < r.frames s → length (order s) < r.frames s
    room h = rw many at h

    room_filled : r.filled s < r.frames s → r.filled (r.placed s) ≡ suc (r.filled s)
    room_filled h =
        next_many ∙ ap length (o.room_order s (reached_valid q) (room h)) ∙
        length_push (order s) (length (order s)) ∙ add-one (length (order s)) ∙ ap suc (sym many)

    -- a place with all frames filled
    turn : r.filled s ≡ r.frames s → (rest : List ℕ) × (order s ≡ r.place s ∷ rest) × (order (r.placed s) ≡ rest ++ (r.place s ∷ []))
    turn e = o.full_order s (reached_valid q) (sym many ∙ e) (reached_some q)

    full_place : r.filled s ≡ r.frames s → r.place s < r.frames s
    full_place e =
        rw (sym many ∙ e) at (o.bounded s (reached_valid q) (r.place s) (member_first (r.place s) (order s) (turn e).0 (turn e).1))

    full_filled : r.filled s ≡ r.frames s → r.filled (r.placed s) ≡ r.filled s
    full_filled e = next_many ∙ ap length (turn e).2 ∙ length_push (turn e).0 (r.place s) ∙
        add-one (length (turn e).0) ∙ sym (ap length (turn e).1) ∙ sym many

    used_filled : (f : ℕ) → f < r.filled s → r.filled (r.used s f) ≡ r.filled s
    used_filled f h =
        let l = below f h in
        o.filled_order (r.used s f) (o.used_valid s (reached_valid q) f l) ∙
        sym (later_length f (order s) (order (r.used s f)) (o.used_order s (reached_valid q) f l)) ∙ sym many

  pub ordered_shape : Shape r
  ordered_shape = record {
    first_frames = λ c k h. o.first_frames c k;
    first_filled = λ c k h. o.filled_order (r.first c k) (o.first_valid c k h) ∙ ap length (o.first_order c k);
    within = λ s q. rw (many s q) (o.within s (reached_valid q));
    placed_frames = λ s q. o.placed_frames s (reached_valid q);
    room_place = λ s q h. o.room_place s (reached_valid q) (room s q h) ∙ sym (many s q);
    room_filled = room_filled;
    full_place = full_place;
    full_filled = full_filled;
    used_frames = λ s q f h. o.used_frames s (reached_valid q) f (below s q f h);
    used_filled = used_filled;
  }
