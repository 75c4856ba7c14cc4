use Rattle.std.proofs.Common.{arith}
use Rattle.policy.proofs.CircleQueues.{full_place, full_placed}
use Rattle.policy.proofs.fifo.Fifo.take_earliest.Goals as goal

pub returns : goal.returns
returns c =
    let p = c.args.self.now in
    record {
      value = full_place p.size p.filled p.hand (omega arith) c.requires;
      after = full_placed p.size p.filled p.hand c.next_in_ring-self.result (omega arith) (omega arith) c.next_in_ring-self.ensures;
    }
