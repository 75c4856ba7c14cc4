use Rattle.curve.proofs.Paddings.{touched_held, touched_new}
use Rattle.curve.proofs.recency.Recency.touch.Goals as goal

pub returns-then-place-self : goal.returns-then-place-self
returns-then-place-self c =
    let walk = c.bring_to_front-place.ensures in
    let t = touched_held c.args.code c.args.self.now c.requires c.bring_to_front-place.result c.bring_to_front-place.new.codes
    walk.place walk.after c.if-place-self.true in
    record { place = t.found; after = t.fronted; padded = t.behind }

pub returns-else-place-self : goal.returns-else-place-self
returns-else-place-self c =
    let walk = c.bring_to_front-place.ensures in
    let t = touched_new c.args.code c.args.self.now c.requires c.bring_to_front-place.result c.bring_to_front-place.new.codes
    walk.place walk.after c.min-self.result c.min-self.ensures c.if-place-self.false in
    record { place = t.found; after = t.fronted; padded = t.behind }
