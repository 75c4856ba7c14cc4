use Rattle.std.proofs.Common.{rules}
use Rattle.policy.proofs.LinkedLists.{pushed}
use Rattle.policy.proofs.lru.list.FrameList.push.Goals as goal

pub invariant_of-self : goal.invariant_of-self
invariant_of-self c =
    let h = pushed c.args.self.now (search rules) (search rules) c.args.frame c.requires.low _ c.append.ensures c.requires.new in
    record { fits = search rules; closed = h.closed; once = h.once }

pub returns : goal.returns
returns c = (pushed c.args.self.now (search rules) (search rules) c.args.frame c.requires.low _ c.append.ensures c.requires.new).are
