use Rattle.index.specs.Slots.{slots_of}
use Rattle.index.proofs.Updates.{tells}
use Rattle.index.proofs.index.Index.probe.Goals as goal

pub returns-clause-map : goal.returns-clause-map
returns-clause-map g c =
    tells g.K.Key.code g.K.Key.spread (slots_of c.args.self.now) c.requires.different c.args.key.now c.look_up.result c.look_up.ensures
