use Rattle.std.proofs.Common.{rules}
use Rattle.policy.proofs.LinkedLists.{removed}
use Rattle.policy.proofs.lru.list.FrameList.remove.Goals as goal

pub invariant_of-self : goal.invariant_of-self
invariant_of-self c =
    let h = removed c.args.self.now (search rules) (search rules) c.args.frame c.requires.low _ c.unlink.ensures c.requires.has in
    record { fits = search rules; closed = h.closed; once = h.once }

pub returns : goal.returns
returns c = (removed c.args.self.now (search rules) (search rules) c.args.frame c.requires.low _ c.unlink.ensures c.requires.has).are
