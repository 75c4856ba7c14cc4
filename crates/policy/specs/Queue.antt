-- A queue of the filled frames, the first to go first: what LRU and FIFO have in common. Assumes nothing.
use Rattle.std.specs.Prelude.{ℕ, cond, List, [], ◌∷◌, ◌++◌, length, nat_lt, slice_index}
use Rattle.base.specs.Lists.{without}
use Rattle.policy.specs.Machine.{Rules}

-- How many frames there are, and the filled ones in their order.
pub record Queue : Type 0 where
  pub size : ℕ
  pub order : List ℕ

-- while there is room the number filled, afterwards the first of the queue
abbrev pub queue_place : Queue → ℕ
queue_place q = cond (nat_lt (length q.order) q.size) (length q.order) (slice_index q.order 0)

-- a queue with f moved to its end, or put there
abbrev pub to_back : Queue → ℕ → Queue
to_back q f = record q { order = without f q.order ++ (f ∷ []) }

-- a queue's rules, but for what a use does
abbrev pub queue_rules : (Queue → ℕ → Queue) → Rules (Unit {0}) Queue
queue_rules used = record {
  first = λ c k. record { size = k; order = [] };
  frames = λ q. q.size;
  filled = λ q. length q.order;
  place = queue_place;
  placed = λ q. to_back q (queue_place q);
  used = used;
}
