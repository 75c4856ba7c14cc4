use Rattle.std.proofs.Common.{◌∙◌}
use Rattle.disk.proofs.Members.{member_any}
use Rattle.disk.proofs.image.ImageDisk.is_dead.Goals as goal

pub returns : goal.returns
returns c = c.contains.ensures.value ∙ member_any c.args.sector c.args.self.now.dead.now
