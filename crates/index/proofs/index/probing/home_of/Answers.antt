use Rattle.std.proofs.Common.{◌∙◌, ap, length, arith, rules}
use Rattle.index.specs.Slots.{scattered}
use Rattle.index.proofs.Homes.{home_is, scaled_most}
use Rattle.index.proofs.index.probing.home_of.Goals as goal

pub returns : goal.returns
returns g c = home_is g.K.Key.spread _ c.args.key.now _ (c.from.ensures ∙ c.scattered.ensures ∙ ap scattered c.spread.ensures)

pub overflow_cast-result-2 : goal.overflow_cast-result-2
overflow_cast-result-2 g c =
    let most = scaled_most c.from.result (length c.args.slots.now) (omega arith) in
    search rules
