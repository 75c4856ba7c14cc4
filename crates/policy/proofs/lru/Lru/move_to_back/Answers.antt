use Rattle.std.proofs.Common.{arith}
use Rattle.policy.specs.FrameList.{frames_in}
use Rattle.policy.specs.Queues.{covers_back}
use Rattle.policy.proofs.Orders.{held, gone, as_long, one_less}
use Rattle.policy.proofs.lru.Lru.move_to_back.Goals as goal

pub remove-requires-clause-has : goal.remove-requires-clause-has
remove-requires-clause-has c = let l = c.args.self.now in held l.order l.frames c.args.frame c.requires

pub push-requires-clause-new : goal.push-requires-clause-new
push-requires-clause-new c = let l = c.args.self.now in rw c.remove.ensures (gone l.order l.frames c.args.frame c.requires)

pub push-requires-clause-room : goal.push-requires-clause-room
push-requires-clause-room c =
    let l = c.args.self.now in
    rw c.remove.ensures (omega (arith, one_less l.order l.frames c.args.frame c.requires, l.fits, l.most))

pub invariant_of-self-clause-fits : goal.invariant_of-self-clause-fits
invariant_of-self-clause-fits c =
    let l = c.args.self.now in
    rw (c.push.ensures, c.remove.ensures) (omega (arith, as_long l.order l.frames c.args.frame c.requires, l.fits))

pub invariant_of-self-clause-frames : goal.invariant_of-self-clause-frames
invariant_of-self-clause-frames c =
    let l = c.args.self.now in
    rw (c.push.ensures, c.remove.ensures) (covers_back (frames_in l.order) l.frames c.args.frame c.requires)
