use Rattle.std.proofs.Common.{rules}
use Rattle.index.proofs.Updates.{free_map}
use Rattle.index.proofs.index.steps.free_all.Goals as goal

pub returns : goal.returns
returns g c =
    let free = c.fill.ensures.after (λ y e. search rules) in
    record { free = free; map = free_map g.K.Key.code _ _ free }
