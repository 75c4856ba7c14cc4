use Rattle.index.proofs.Searches.{full_from_stops, open_from_stops, found_from_stops}
use Rattle.index.proofs.index.probing.look_up.Goals as goal

pub returns-in_default : goal.returns-in_default
returns-in_default g c = full_from_stops g.K.Key.code g.K.Key.spread c.args.slots.now c.args.key.now c.in_default.ensures

pub returns-in-None : goal.returns-in-None
returns-in-None g c =
    open_from_stops _ _ _ _ g.met.K.Key.faithful c.requires c.in-Some.field-0 c.in-Some.ensures c.in-None.is

pub returns-in-Some-number : goal.returns-in-Some-number
returns-in-Some-number g c =
    found_from_stops g.K.Key.code g.K.Key.spread _ _ g.met.K.Key.faithful c.in-Some.field-0 c.in-Some-number.number c.in-Some.ensures
    c.in-Some-number.is
