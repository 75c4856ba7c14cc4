use Rattle.std.proofs.Common.{max, [], map, length, Result, sym, ◌∙◌, rules}
use Rattle.base.specs.declared.refusal.Refusal.{Refusal}
use Rattle.policy.specs.Lru.{lru_rules}
use Rattle.policy.specs.Fifo.{fifo_rules}
use Rattle.policy.specs.Clock.{clock_rules}
use Rattle.planning.specs.declared.lists.Places.{Places}
use Rattle.planning.specs.Lists.{places}
use Rattle.planning.specs.Minimum.{min_serves}
use Rattle.planning.specs.Plan.{plan_answer, forecast_of}
use Rattle.planning.proofs.Plans.{handed_judged, handed_serving}
use Rattle.sheet.proofs.Sheets.{served_thrice}
use Rattle.sheet.proofs.plan_line.calls.plan_of_keys.Goals as goal

-- each of the three plans serves the touches by the same frames, as the first is judged
pub returns-clause-serving : goal.returns-clause-serving
returns-clause-serving g c =
    let touches = map g.K.Key.code c.args.keys.now in
    let k = c.args.frames in
    let h = c.args.smaller in
    let first = c.args.lists.now in
    let second = c.forecast_touches.new.lists in
    let third = c.forecast_touches-2.new.lists in
    let lru = sym c.in_ok-lru.was ∙ c.forecast_touches.ensures.answer in
    let fifo = sym c.in_ok-fifo.was ∙ c.forecast_touches-2.ensures.answer in
    let clock = sym c.in_ok-clock.was ∙ c.forecast_touches-3.ensures.answer in
    let judged : Places → Result (Unit {0}) Refusal = plan_answer (length touches) k h (max k h) in
    let a = c.forecast_touches.ensures.serving ∙
    handed_serving (judged (places first)) (forecast_of lru_rules tt touches k h) _ first.serving.now lru in
    let b = c.forecast_touches-2.ensures.serving ∙
    handed_serving (judged (places second)) (forecast_of fifo_rules tt touches k h) _ second.serving.now fifo in
    let d = c.forecast_touches-3.ensures.serving ∙
    handed_serving (judged (places third)) (forecast_of clock_rules tt touches k h) _ third.serving.now clock in
    let accepted = handed_judged (judged (places first)) (forecast_of lru_rules tt touches k h) _ lru in
    rw accepted (served_thrice (min_serves h [] touches) _ _ _ _ a b d)

-- By the one tactic that proves it: where the code is wrong no other is tried.
pub returns-clause-answer : goal.returns-clause-answer
returns-clause-answer g c = search rules
