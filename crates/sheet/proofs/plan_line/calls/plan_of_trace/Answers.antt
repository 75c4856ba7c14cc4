use Rattle.std.proofs.Common.{◌≡◌, ℕ, List, map, length, take, Result, sym, ap, ◌∙◌, subst, arith, rules}
use Rattle.std.proofs.lemmas.Grind.{common_steps}
use Rattle.std.proofs.lemmas.List.{length-map}
use Rattle.base.specs.Keys.{volume_code}
use Rattle.trace.specs.declared.fault.ReplayFault.{ReplayFault}
use Rattle.trace.specs.Touches.{judged, accepted, Written}
use Rattle.sheet.specs.PlanLines.{read_from, WithinCeiling}
use Rattle.sheet.proofs.Sheets.{counted_some}
use Rattle.sheet.proofs.plan_line.calls.plan_of_trace.Goals as goal

pub returns-clause-bounded : goal.returns-clause-bounded
returns-clause-bounded c =
    let text = c.args.text.now in
    let places = length c.args.keys.now in
    let q = counted_some (judged text places) _ c.in_ok-touches.ensures.answer in
    let filled =
    subst (λ (r : Result (List ℕ) ReplayFault). Written r c.args.keys.now c.read_trace.new.keys) q.1 c.in_ok-touches.ensures.keys in
    let keys = take c.in_ok-touches.touches c.read_trace.new.keys in
    let first : map volume_code keys ≡ q.0 = ap (λ n. map volume_code (take n c.read_trace.new.keys)) q.2 ∙ filled.first in
    let read : map volume_code keys ≡ read_from text places = first ∙ sym (ap accepted q.1) in
    let line = c.in_ok-plan_of_keys.field-0 in
    let serving = c.plan_of_keys.new.lists.serving.now in
    let P : List ℕ → Type 0 = λ touches. WithinCeiling line touches (take (length touches) serving) in
    let long : length keys ≡ length (map volume_code keys) = sym (length-map keys volume_code) in
    subst P read (subst (λ n. WithinCeiling line (map volume_code keys) (take n serving)) long c.in_ok-plan_of_keys.ensures.bounded)

-- By the one tactic that proves it: where the code is wrong no other is tried.
pub returns-in_err-plan_of_keys-clause-answer : goal.returns-in_err-plan_of_keys-clause-answer
returns-in_err-plan_of_keys-clause-answer c = grind (arith, common_steps)

pub returns-in_err-plan_of_keys-clause-serving : goal.returns-in_err-plan_of_keys-clause-serving
returns-in_err-plan_of_keys-clause-serving c = grind (arith, common_steps)

pub returns-clause-answer : goal.returns-clause-answer
returns-clause-answer c = search rules

pub returns-clause-serving : goal.returns-clause-serving
returns-clause-serving c = search rules
