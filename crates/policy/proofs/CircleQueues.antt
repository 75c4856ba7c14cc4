-- FIFO's hand goes through the queue. Assumes nothing.
use Rattle.std.proofs.Common.{◌≡◌, ℕ, ◌+◌, ◌-◌, ◌<◌, ◌≤◌, length, inl, inr, arith}
use Rattle.std.proofs.lemmas.List.{append-nil}
use Rattle.std.proofs.lemmas.Bool.{cases_lt, lt-ltb, le-ltb}
use Rattle.base.specs.Lists.{without}
use Rattle.base.specs.Rings.{onward}
use Rattle.policy.specs.Circle.{circle, upward}
use Rattle.policy.specs.Queue.{Queue, to_back, queue_place}
use Rattle.policy.specs.declared.fifo.Fifo.{Fifo}
use Rattle.policy.specs.Members.{others_miss, without_misses}
use Rattle.policy.specs.Queues.{back_first}
use Rattle.policy.specs.Circles.{circle_here, circle_next, length-circle, upward_push, others}

-- the queue of the filled frames from the hand on
abbrev pub queue_at : ℕ → ℕ → ℕ → Queue
queue_at size filled hand = record { size = size; order = circle filled hand }

pub filled_circle : (p : Fifo) → length (circle p.filled p.hand) ≡ p.filled
filled_circle p =
    let low : p.hand ≤ p.filled = elim (cases_lt p.filled p.size) [ inl room ↦ omega (arith, p.waits room) | inr full ↦ omega arith ] in
    length-circle p.filled p.hand low

-- from frame 0 on
circle_start : (n : ℕ) → circle n 0 ≡ upward 0 n
circle_start n = let e : n - 0 ≡ n = omega arith in rw (e, append-nil)

module _ (size n : ℕ) where
  -- a place while there is room
  pub room_place : n < size → n ≡ queue_place (queue_at size n 0)
  room_place l = rw (length-circle n 0 (omega arith), lt-ltb n size l)

  pub room_placed : queue_at size (n + 1) 0 ≡ to_back (queue_at size n 0) n
  room_placed =
      let out = others_miss n (upward 0 n) (others n 0 n (inr (omega arith))) in
      let same : without n (circle n 0) ≡ upward 0 n = rw (circle_start n) (without_misses n (upward 0 n) out) in
      rw (circle_start (n + 1), same, upward_push n)

  -- a place with all frames filled
  pub full_place : (h : ℕ) → h < n → size ≤ n → h ≡ queue_place (queue_at size n h)
  full_place h low l = rw (length-circle n h (omega arith), le-ltb n size l, circle_here n h low)

  pub full_placed : (h next : ℕ) → h < n → n ≡ size → next ≡ onward size h → queue_at size n next ≡ to_back (queue_at size n h) h
  full_placed h next low full e = rw (e, ← full, circle_next n h low, circle_here n h low, back_first)
