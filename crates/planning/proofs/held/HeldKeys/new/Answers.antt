use Rattle.std.proofs.Common.{refl, sym, ap, ◌∙◌, rules}
use Rattle.index.specs.Maps.{Map, empty}
use Rattle.planning.proofs.held.HeldKeys.new.Goals as goal

pub returns-clause-unfilled : goal.returns-clause-unfilled
returns-clause-unfilled g c =
    let made = c.new.ensures in
    record { sound = made.sound; map = made.map ∙ ap empty (sym (ap (λ (m : Map). m.places) made.map)); none = refl }

-- By the one tactic that proves it: where the code is wrong no other is tried.
pub returns-clause-slots : goal.returns-clause-slots
returns-clause-slots g c = search rules
