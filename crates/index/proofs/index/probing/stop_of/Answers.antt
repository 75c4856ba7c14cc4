use Rattle.std.proofs.Common.{length, arith}
use Rattle.index.proofs.Homes.{home_within}
use Rattle.index.proofs.Searches.{stops_upward, stops_around}
use Rattle.index.proofs.index.probing.stop_of.Goals as goal

pub stop_between-requires : goal.stop_between-requires
stop_between-requires g c =
    let most = home_within g.K.Key.spread (length c.args.slots.now) c.args.key.now in
    (rw c.home_of-home.ensures most, omega arith)

pub returns-in-Some : goal.returns-in-Some
returns-in-Some g c =
    stops_upward g.K.Key.code g.K.Key.spread c.args.slots.now c.args.key.now _ _ _ c.home_of-home.ensures c.code-code.ensures
    c.in-Some.ensures

pub stop_between-requires-2 : goal.stop_between-requires-2
stop_between-requires-2 g c =
    let most = home_within g.K.Key.spread (length c.args.slots.now) c.args.key.now in
    let within = rw (← c.home_of-home.ensures) at most in
    (omega arith, omega arith)

pub returns : goal.returns
returns g c =
    let most = home_within g.K.Key.spread (length c.args.slots.now) c.args.key.now in
    stops_around g.K.Key.code g.K.Key.spread c.args.slots.now c.args.key.now _ _ _ c.home_of-home.ensures c.code-code.ensures
    (rw c.home_of-home.ensures most) c.in_default.ensures c.stop_between-2.ensures
