-- LRU: the frames in order of their latest place or use. Assumes nothing.
use Rattle.policy.specs.Machine.{Rules}
use Rattle.policy.specs.Queue.{Queue, to_back, queue_rules}
use Rattle.policy.specs.FrameList.{frames_in}
use Rattle.policy.specs.declared.lru.Lru.{Lru}

-- a use moves its frame to the end
abbrev pub lru_rules : Rules (Unit {0}) Queue
lru_rules = queue_rules to_back

-- the queue that the code keeps
abbrev pub lru_queue : Lru → Queue
lru_queue l = record { size = l.size; order = frames_in l.order }
