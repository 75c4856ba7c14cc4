use Rattle.policy.proofs.CircleQueues.{room_place, room_placed}
use Rattle.policy.proofs.fifo.Fifo.fill_next.Goals as goal

pub returns : goal.returns
returns c =
    let p = c.args.self.now in
    let start = p.waits c.requires in
    record { value = rw start (room_place p.size p.filled c.requires); after = rw start (room_placed p.size p.filled) }
