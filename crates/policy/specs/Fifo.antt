-- FIFO: the frames in order of their place. Assumes nothing.
use Rattle.policy.specs.Machine.{Rules}
use Rattle.policy.specs.Circle.{circle}
use Rattle.policy.specs.Queue.{Queue, queue_rules}
use Rattle.policy.specs.declared.fifo.Fifo.{Fifo}

-- a use changes nothing
abbrev pub fifo_rules : Rules (Unit {0}) Queue
fifo_rules = queue_rules (λ q f. q)

-- the queue that the code keeps: the filled frames from the hand on
abbrev pub fifo_queue : Fifo → Queue
fifo_queue p = record { size = p.size; order = circle p.filled p.hand }
