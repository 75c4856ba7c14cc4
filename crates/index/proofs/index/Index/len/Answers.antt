use Rattle.index.proofs.Finites.{finite_from_sound}
use Rattle.index.proofs.index.Index.len.Goals as goal

pub returns-clause-finite : goal.returns-clause-finite
returns-clause-finite g c = finite_from_sound g.K.Key.code g.K.Key.spread c.args.self.now c.requires
