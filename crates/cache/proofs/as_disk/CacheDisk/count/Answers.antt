use Rattle.std.proofs.Common.{rules}
use Rattle.cache.specs.Reading.{view}
use Rattle.cache.proofs.Views.{shown_sized}
use Rattle.cache.proofs.as_disk.CacheDisk.count.Goals as goal

pub returns-clause-sized : goal.returns-clause-sized
returns-clause-sized g c = shown_sized g.P.Policy.rules g.met.P.Policy.shape (view g.D.Disk g.P.Policy c.args.self.now) c.requires.own

-- By the one tactic that proves it: where the code is wrong no other is tried.
pub returns-clause-value : goal.returns-clause-value
returns-clause-value g c = search rules
