use Rattle.std.proofs.Common.{map, sym, ◌∙◌, rules}
use Rattle.planning.proofs.Plans.{planned_serving}
use Rattle.sheet.proofs.row.calls.fewest_of_keys.Goals as goal

pub returns-clause-serving : goal.returns-clause-serving
returns-clause-serving g c =
    let touches = map g.K.Key.code c.args.keys.now in
    let h = c.args.frames in
    c.plan_touches.ensures.serving ∙
    planned_serving touches h h _ _ c.args.lists.now.serving.now (sym c.unwrap.ensures ∙ c.plan_touches.ensures.answer)

-- By the one tactic that proves it: where the code is wrong no other is tried.
pub returns-clause-count : goal.returns-clause-count
returns-clause-count g c = search rules
