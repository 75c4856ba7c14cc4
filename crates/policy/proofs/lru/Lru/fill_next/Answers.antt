use Rattle.policy.specs.FrameList.{frames_in}
use Rattle.policy.specs.Queues.{covers_next, next_misses}
use Rattle.policy.proofs.Orders.{next_new}
use Rattle.policy.proofs.lru.Lru.fill_next.Goals as goal

pub push-requires-clause-new : goal.push-requires-clause-new
push-requires-clause-new c = let l = c.args.self.now in rw c.len-frame.ensures (next_new l.order l.frames)

pub invariant_of-self-clause-frames : goal.invariant_of-self-clause-frames
invariant_of-self-clause-frames c =
    let l = c.args.self.now in
    rw (c.push.ensures, c.len-frame.ensures) (covers_next (frames_in l.order) l.frames)

pub returns-clause-after : goal.returns-clause-after
returns-clause-after c =
    let l = c.args.self.now in
    rw (c.push.ensures, c.len-frame.ensures, next_misses (frames_in l.order) l.frames)
