use Rattle.policy.proofs.LinkedLists.{alone_leads}
use Rattle.policy.proofs.lru.links.Links.new.Goals as goal

pub invariant_of-result-clause-onward : goal.invariant_of-result-clause-onward
invariant_of-result-clause-onward c = alone_leads 65

pub invariant_of-result-clause-backward : goal.invariant_of-result-clause-backward
invariant_of-result-clause-backward c = alone_leads 65
